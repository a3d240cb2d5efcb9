use Rattle.embedding.specs.Places.{PutsDown}
use Rattle.embedding.proofs.places.join_places.Given as goal

abbrev pub invariant-loop-k : goal.invariant-loop-k
invariant-loop-k g l = PutsDown l.n l.nodes l.k l.initial.us l.initial.vs l.us l.vs
