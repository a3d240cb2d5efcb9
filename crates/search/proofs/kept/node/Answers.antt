use mathlib.Core.Bool.{Bool, cond}
use mathlib.Core.Path.{ap, sym, ◌∙◌}
use Prim.Native.Nat.{◌-◌, ◌+◌}
use native.Mathlib.Omega.{arith}
use lib.Count.{ones}
use borrow.Author.Tests.{lt-ltb, le-ltb}
use Rattle.subsets.specs.Kept.{node_of}
use Rattle.subsets.specs.Subsets.{lowest}
use Rattle.subsets.proofs.Lowest.{lowest_lt}
use Rattle.search.proofs.kept.node.Goals as goal

pub overflow_cast-result : goal.overflow_cast-result
overflow_cast-result c =
    omega (arith, c.first.ensures, lowest_lt 32 c.args.s c.requires.0 c.ranges.s.fits)

pub returns-then-s-lt2 : goal.returns-then-s-lt2
unfolding node_of
returns-then-s-lt2 c =
    let a = c.args in
    c.first.ensures ∙ ap (λ (b : Bool). cond b (lowest a.s) (a.n + a.made - 1)) (sym (lt-ltb (ones a.s) 2 c.if-s-lt2.true))

pub returns-else-s-lt2 : goal.returns-else-s-lt2
unfolding node_of
returns-else-s-lt2 c =
    let a = c.args in
    ap (λ (b : Bool). cond b (lowest a.s) (a.n + a.made - 1)) (sym (le-ltb (ones a.s) 2 c.if-s-lt2.false))
