use native.Mathlib.Omega.{arith}
use Rattle.search.proofs.Finding.{wrote_near, wrote_kept}
use Rattle.search.proofs.search.write_joins.Goals as goal

pub returns-then-budget-all_steps : goal.returns-then-budget-all_steps
returns-then-budget-all_steps c =
    let a = c.args in
    wrote_near a.sinks.now.xs.now a.sinks.now.ys.now a.sinks.now.delays.now a.budget a.js.now c.order_sound.new.js (omega (arith, c.all_steps.ensures)) c.order_sound.ensures

pub returns-else-budget-all_steps : goal.returns-else-budget-all_steps
returns-else-budget-all_steps c =
    let a = c.args in
    wrote_kept a.sinks.now.xs.now a.sinks.now.ys.now a.sinks.now.delays.now a.budget a.ds.now a.table.now a.js.now c.write_kept.new.js c.requires (omega (arith, c.all_steps.ensures)) c.write_kept.ensures
