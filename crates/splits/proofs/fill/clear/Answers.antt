use mathlib.Core.Path.{ap, ◌∙◌}
use mathlib.Core.List.{List, ◌++◌}
use Prim.Native.Nat.{ℕ}
use lib.ListN.{drop, set, take}
use Rattle.subsets.specs.Table.{blank_of}
use Rattle.subsets.proofs.Filling.{blanked_more, blanked_part, blanked_zero}
use Rattle.splits.proofs.fill.clear.Goals as goal

pub loop-s-init : goal.loop-s-init
loop-s-init c = blanked_zero (take c.subsets.result c.args.table.now)

pub loop-s-preserved : goal.loop-s-preserved
loop-s-preserved c =
    let l = c.loop-s in
    ap (λ (v : ℕ). set l.blanks l.s v) c.blank.ensures
    ∙ ap (λ (x : List ℕ). set x l.s (blank_of l.s)) l.invariant
    ∙ blanked_more l.s (take c.subsets.result c.args.table.now) c.loop-s-test.true

pub returns : goal.returns
returns c =
    let l = c.loop-s in
    let t = c.args.table.now in
    let k = c.subsets.result in
    ap (λ (x : List ℕ). x ++ drop k t) l.invariant ∙ blanked_part c.args.n k l.s t c.subsets.ensures.0 c.requires.1 c.loop-s-test.false l.auto.s-end
