use mathlib.Core.Path.{refl}
use native.Mathlib.Omega.{arith}
use lib.ListN.{length-set}
use lib.Pow.{pow_pos}
use Rattle.subsets.proofs.Widths.{double_fits, double_is, widths_doubled, widths_start}
use Rattle.subsets.proofs.square.diameters.Goals as goal

pub bounds-ds-0 : goal.bounds-ds-0
bounds-ds-0 c = omega (arith, pow_pos c.args.n, c.requires)

pub loop-j-init : goal.loop-j-init
loop-j-init c = (refl, widths_start c.args.q c.args.ds.now (omega (arith, pow_pos c.args.n, c.requires)))

pub farthest-requires : goal.farthest-requires
farthest-requires c =
    let l = c.loop-j in
    (omega arith, l.invariant.0, omega (arith, l.invariant.0, double_fits l.j c.args.n c.loop-j-test.true, c.requires, length-set c.args.ds.now 0 0))

pub widen-requires : goal.widen-requires
widen-requires c =
    let l = c.loop-j in
    omega (arith, l.invariant.0, double_fits l.j c.args.n c.loop-j-test.true, c.requires, length-set c.args.ds.now 0 0)

pub loop-j-preserved : goal.loop-j-preserved
loop-j-preserved c =
    let l = c.loop-j in (
      double_is l.j l.half l.invariant.0,
      widths_doubled c.args.q l.j l.ds (omega arith) l.invariant.0 l.invariant.1 c.farthest.ensures c.widen.ensures,
    )
