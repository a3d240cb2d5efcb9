use native.Mathlib.Omega.{arith}
use Rattle.text.proofs.Decimal.{decimal_one, decimal_more}
use Rattle.text.proofs.Written.{room_here, room_then, then}
use Rattle.text.proofs.figures.+digits.Goals as goal

pub byte-requires : goal.byte-requires
byte-requires t c = rw (decimal_one c.args.n c.if-n-lt10.true) at c.requires

pub returns-then-n-lt10 : goal.returns-then-n-lt10
returns-then-n-lt10 t c = rw (decimal_one c.args.n c.if-n-lt10.true) c.byte.ensures

pub digits-requires : goal.digits-requires
digits-requires t c =
    (omega (arith, c.decreases), room_here _ (rw (decimal_more c.args.n c.if-n-lt10.false) at c.requires))

pub byte-requires-2 : goal.byte-requires-2
byte-requires-2 t c = room_then c.digits.ensures (rw (decimal_more c.args.n c.if-n-lt10.false) at c.requires)

pub returns : goal.returns
returns t c =
    rw (decimal_more c.args.n c.if-n-lt10.false) (then c.digits.ensures c.byte-2.ensures)
