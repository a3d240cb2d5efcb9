use mathlib.Core.Path.{◌≡◌}
use lib.ListN.{length}
use Rattle.plane.specs.Sinks.{sinks_in}
use Rattle.subsets.proofs.Rows.{RowsTo}
use Rattle.subsets.proofs.square.square.Given as goal

-- The invariant: the first i rows are in the square.
abbrev pub invariant-loop-i : goal.invariant-loop-i
invariant-loop-i l = (length l.q ≡ 12) × RowsTo (sinks_in l.sinks) l.i l.q
