use Rattle.partners.proofs.Leasts.{Sofar}
use Rattle.partners.proofs.lowest.least.Given as goal

abbrev pub invariant-loop-e : goal.invariant-loop-e
invariant-loop-e l = Sofar l.ds l.d l.e-index
