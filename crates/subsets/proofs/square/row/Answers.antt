use mathlib.Core.Path.{◌∙◌}
use native.Mathlib.Omega.{arith}
use lib.ListN.{length-set}
use Rattle.plane.specs.Sinks.{sinks_in}
use Rattle.subsets.proofs.Rows.{row_more}
use Rattle.subsets.proofs.square.row.Goals as goal

pub loop-j-preserved : goal.loop-j-preserved
loop-j-preserved c =
    let a = c.args in
    let l = c.loop-j in
    (length-set l.r l.j c.apart.result ∙ l.invariant.0, row_more (sinks_in a.sinks.now) a.i l.j c.apart.result l.r l.invariant.1 (omega arith) c.apart.ensures)
