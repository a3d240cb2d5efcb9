use mathlib.Core.Path.{◌∙◌}
use native.Mathlib.Omega.{arith}
use lib.ListN.{length-set}
use Rattle.plane.specs.Sinks.{sinks_in}
use Rattle.subsets.proofs.Rows.{rows_more}
use Rattle.subsets.proofs.square.square.Goals as goal

pub loop-i-preserved : goal.loop-i-preserved
loop-i-preserved c =
    let a = c.args in
    let l = c.loop-i in
    (length-set l.q l.i c.row.result ∙ l.invariant.0, rows_more (sinks_in a.sinks.now) l.i l.q c.row.result l.invariant.1 (omega arith) c.row.ensures)
