use native.Mathlib.Omega.{arith}
use Rattle.partners.proofs.Rowing.{holds_begin, holds_turn}
use Rattle.partners.proofs.rows.Rows.hold.Goals as goal

pub loop-t-init : goal.loop-t-init
loop-t-init c = holds_begin c.args.self.now

pub loop-t-preserved : goal.loop-t-preserved
loop-t-preserved c = holds_turn c.loop-t.invariant (omega arith) c.hold_row.ensures
