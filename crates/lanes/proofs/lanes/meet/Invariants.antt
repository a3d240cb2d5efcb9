use Rattle.lanes.proofs.Turning.{Turning}
use Rattle.lanes.proofs.lanes.meet.Given as goal

abbrev pub invariant-loop-k : goal.invariant-loop-k
invariant-loop-k l = Turning l.rows l.a l.b l.initial.sums l.k l.sums
