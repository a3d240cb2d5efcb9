use Rattle.embedding.specs.Places.{PutsSinks}
use Rattle.embedding.proofs.places.sink_places.Given as goal

abbrev pub invariant-loop-k : goal.invariant-loop-k
invariant-loop-k l = PutsSinks l.xs l.ys l.k l.initial.us l.initial.vs l.us l.vs
