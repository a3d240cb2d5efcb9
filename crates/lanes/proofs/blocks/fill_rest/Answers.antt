use native.Mathlib.Omega.{arith}
use lib.Pow.{pow_mono}
use Rattle.lanes.proofs.blocks.fill_rest.Goals as goal

pub fill_with-requires-then-n-le10 : goal.fill_with-requires-then-n-le10
fill_with-requires-then-n-le10 c = (c.requires, omega (arith, pow_mono {i = c.args.n} {j = 10} c.if-n-le10.true), omega arith)

pub fill_with-requires-else-n-le10 : goal.fill_with-requires-else-n-le10
fill_with-requires-else-n-le10 c = (c.requires, omega (arith, pow_mono {i = c.args.n} {j = 12} c.requires.few), omega arith)
