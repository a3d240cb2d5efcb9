use mathlib.Core.Path.{◌≡◌}
use Prim.Native.Nat.{◌-◌, ◌^◌}
use Rattle.subsets.specs.Subsets.{lowest}
use Rattle.lanes.proofs.Turning.{Lanewise}
use Rattle.lanes.proofs.lanes.lane_sums.Given as goal

abbrev pub invariant-loop-other : goal.invariant-loop-other
invariant-loop-other l = (l.other-iterator.whole ≡ l.h - 2 ^ lowest l.h) × Lanewise l.rows l.h l.initial.sums l.other-iterator.next l.sums
