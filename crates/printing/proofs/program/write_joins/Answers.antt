use native.Mathlib.Omega.{arith}
use lib.Pow.{pow_mono}
use Rattle.printing.proofs.Searched.{joins_small, joins_large}
use Rattle.printing.proofs.program.write_joins.Goals as goal

pub search_joins-requires : goal.search_joins-requires
search_joins-requires c =
    let p = c.requires.sinks in
    let h = c.if-n-le12.true in
    record { ranged = p.ranged; some = p.some; few = h; room_table = pow_mono h; room_js = omega arith }

pub returns-then-n-le12 : goal.returns-then-n-le12
returns-then-n-le12 c =
    rw (joins_small c.args.sinks.now.xs.now c.args.sinks.now.ys.now c.args.sinks.now.delays.now c.requires.sinks c.if-n-le12.true, ← c.all_steps.ensures) c.search_joins.ensures.writes_js

pub returns : goal.returns
returns c = rw (joins_large c.args.sinks.now.xs.now c.args.sinks.now.ys.now c.args.sinks.now.delays.now c.requires.sinks c.if-n-le12.false) c.order_sound.ensures
