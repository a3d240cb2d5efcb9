use mathlib.Core.Path.{◌≡◌}
use Prim.Native.Nat.{◌-◌, ◌≤◌}
use lib.ListN.{length}
use Rattle.lanes.proofs.Advancing.{Advanced}
use Rattle.lanes.proofs.blocks.fill_blocks.Given as goal

-- The loop's invariant is `Advanced`.
abbrev pub invariant-loop-h : goal.invariant-loop-h
invariant-loop-h l = (l.h ≤ l.size) × (length l.table ≡ length l.initial.table) × (length l.rows ≡ length l.initial.rows) × Advanced l.n l.ds l.initial.table l.h l.table l.rows

abbrev pub decreases-loop-h : goal.decreases-loop-h
decreases-loop-h l = l.size - l.h
