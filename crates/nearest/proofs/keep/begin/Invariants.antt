use Rattle.lists.specs.Grow.{up_to}
use Rattle.partners.specs.Rows.{row_at, Right}
use Rattle.nearest.proofs.keep.begin.Given as goal

abbrev pub invariant-loop-i : goal.invariant-loop-i
invariant-loop-i l = Right l.bs (up_to l.i) l.i (row_at l.rows)
