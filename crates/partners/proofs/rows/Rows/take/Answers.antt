use native.Mathlib.Omega.{arith}
use Rattle.partners.specs.Rows.{row_at}
use Rattle.partners.proofs.Moving.{shifts_begin, shifts_turn}
use Rattle.partners.proofs.rows.Rows.take.Goals as goal

pub loop-t-init : goal.loop-t-init
loop-t-init g c = shifts_begin (row_at c.args.self.now) c.args.from

pub loop-t-preserved : goal.loop-t-preserved
loop-t-preserved g c =
    let w = c.take_row.ensures in
    shifts_turn c.loop-t.invariant c.loop-t.auto.t (omega arith) w.here w.others
