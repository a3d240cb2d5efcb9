use Prim.Native.Nat.{◌-◌}
use Rattle.partners.proofs.Halving.{Halves}
use Rattle.partners.proofs.live.place.Given as goal

abbrev pub invariant-loop-lo : goal.invariant-loop-lo
invariant-loop-lo l = Halves l.live l.x l.lo l.hi

abbrev pub decreases-loop-lo : goal.decreases-loop-lo
decreases-loop-lo l = l.hi - l.lo
