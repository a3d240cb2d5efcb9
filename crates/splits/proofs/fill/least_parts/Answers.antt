use mathlib.Core.Path.{◌≡◌, sym, ap, ◌∙◌}
use Prim.Native.Nat.{◌<◌}
use native.Mathlib.Omega.{arith}
use Rattle.lanes.specs.Sums.{apart, beyond}
use Rattle.splits.proofs.Fours.{leading, one_split}
use Rattle.splits.proofs.fill.least_parts.Goals as goal

pub returns-then-more-eq0 : goal.returns-then-more-eq0
returns-then-more-eq0 c =
    let a = c.args in
    let m : 0 < beyond a.s = omega (arith, c.requires.1, c.requires.2) in
    let e : beyond (beyond a.s) ≡ 0 = sym (c.beyond-more.ensures ∙ ap beyond c.requires.1) ∙ c.if-more-eq0.true in
    (c.parts.ensures.0, one_split a.table.now a.s c.parts.result c.requires.0 m e (c.parts.ensures.1 ∙ ap (apart a.table.now a.s) c.requires.1))

pub least_of_fours-requires : goal.least_of_fours-requires
least_of_fours-requires c =
    let h : 0 < c.beyond-more.result = omega arith in
    (c.requires.0, leading c.args.s c.args.rest c.beyond-more.result c.beyond-last.result c.requires.1 c.requires.2 c.beyond-more.ensures h c.beyond-last.ensures, c.requires.3)

pub returns : goal.returns
returns c = c.least_of_fours.ensures
