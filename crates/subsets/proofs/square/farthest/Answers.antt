use mathlib.Core.Path.{◌≡◌, sym, ap, ◌∙◌}
use Prim.Native.Nat.{ℕ, ◌^◌}
use native.Mathlib.Omega.{arith}
use lib.ListN.{length-set}
use lib.Pow.{pow_pos}
use Rattle.subsets.specs.Square.{entry}
use Rattle.subsets.proofs.Widths.{changed_all, double_fits, double_is, farthest_doubled, farthest_start}
use Rattle.subsets.proofs.square.farthest.Goals as goal

pub bounds-ds-half : goal.bounds-ds-half
bounds-ds-half c = omega (arith, pow_pos c.args.j, c.requires)

pub stretch-requires : goal.stretch-requires
stretch-requires c =
    let a = c.args in
    omega (arith, c.loop-i.invariant.0, double_fits c.loop-i.i a.j c.loop-i-test.true, c.requires, length-set a.ds.now a.half (entry a.q a.j a.j))

pub loop-i-preserved : goal.loop-i-preserved
loop-i-preserved c =
    let l = c.loop-i in (
      double_is l.i l.step l.invariant.0,
      λ a h. farthest_doubled c.args.q c.args.j l.i (omega arith) l.invariant.0 (l.invariant.1 a h) c.stretch.ensures,
    )

pub returns : goal.returns
returns c =
    let a = c.args in
    let l = c.loop-i in
    let e : l.i ≡ a.j = omega arith in
    let f : l.step ≡ a.half = l.invariant.0 ∙ ap (λ (x : ℕ). 2 ^ x) e ∙ sym c.requires.1 in
    changed_all f (l.invariant.1 a.ds.now (farthest_start a.q a.j a.half a.ds.now (omega (arith, pow_pos a.j, c.requires))))
