use mathlib.Core.Path.{◌≡◌}
use Prim.Native.Nat.{ℕ, ◌-◌, ◌≤◌}
use lib.ListN.{get_or}
use Rattle.lanes.specs.Blocks.{least_with}
use Rattle.subsets.specs.Subsets.{rising}
use Rattle.lanes.proofs.lanes.least_lane.Given as goal

-- The loop's invariant: with the lanes from k on, the least so far comes to the least of all.
abbrev pub invariant-loop-k : goal.invariant-loop-k
invariant-loop-k l = (l.from ≤ l.k) × (l.k ≤ l.end) × (least_with (λ (j : ℕ). get_or l.sums j 0) l.least (rising (l.end - l.k) l.k) ≡ least_with (λ (j : ℕ). get_or l.sums j 0) 4294967295 (rising (l.end - l.from) l.from))
