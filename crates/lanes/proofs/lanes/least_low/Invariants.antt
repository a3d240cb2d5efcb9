use mathlib.Core.Path.{◌≡◌}
use Rattle.lanes.specs.Blocks.{least_with, parts_to, split_off_lane}
use Rattle.subsets.proofs.Digits.{Sub}
use Rattle.lanes.proofs.lanes.least_low.Given as goal

-- The loop's invariant: with the parts up to the next, the least so far comes to the least of all.
abbrev pub invariant-loop-part : goal.invariant-loop-part
invariant-loop-part l = let p = l.part-iterator in (p.whole ≡ l.low) × Sub p.next l.low × (least_with (split_off_lane l.table l.s) l.least (parts_to l.low p.next) ≡ least_with (split_off_lane l.table l.s) l.v (parts_to l.low l.low))
