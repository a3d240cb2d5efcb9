use mathlib.Core.Path.{◌≡◌, refl, sym, ap, ◌∙◌}
use Prim.Native.Nat.{ℕ, ◌-◌, ◌^◌}
use native.Mathlib.Omega.{arith}
use lib.Bits.{bit_and, and_self}
use Rattle.subsets.specs.Square.{held}
use Rattle.subsets.specs.Subsets.{lowest}
use Rattle.subsets.proofs.Digits.{low_le, self_lt, sub_and, sub_le}
use Rattle.subsets.proofs.KeptParts.{found, kept_hit, kept_miss, kept_none, kept_start}
use Rattle.subsets.proofs.Lowest.{beyond_lt}
use Rattle.search.proofs.kept.kept.Goals as goal

pub loop-other-init : goal.loop-other-init
loop-other-init c =
    let s = c.args.s in
    let o = c.of-other-items.ensures in
    rw c.into_iter-other-iterator.ensures.into_iter_gives (o.0 ∙ c.beyond-rest.ensures, rw (o.1, c.beyond-rest.ensures) (and_self (s - 2 ^ lowest s)), rw o.1 refl)

pub cost-requires : goal.cost-requires
cost-requires c =
    let s = c.in-Some.ensures.steps in
    (omega arith, omega (arith, sub_le c.loop-other.other-iterator.next (c.args.s - 2 ^ lowest c.args.s) c.loop-other.invariant.1, beyond_lt c.args.s c.requires.0), c.requires.2)

pub overflow_sub-result : goal.overflow_sub-result
overflow_sub-result c =
    let s = c.in-Some.ensures.steps in
    omega (arith, sub_le c.loop-other.other-iterator.next (c.args.s - 2 ^ lowest c.args.s) c.loop-other.invariant.1, beyond_lt c.args.s c.requires.0)

pub returns-then-cost-goal : goal.returns-then-cost-goal
returns-then-cost-goal c =
    let l = c.loop-other in
    let s = c.in-Some.ensures.steps in
    let met = sym (rw s.1 at c.cost.ensures) ∙ c.if-cost-goal.true in
    ap (λ (x : ℕ). c.args.s - x) s.1
    ∙ sym (kept_hit c.diameter-d.result c.args.table.now c.args.s c.from-goal.result c.requires.0 l.other-iterator.next s.0 l.invariant.1 met)
    ∙ l.invariant.2
    ∙ (kept_start c.diameter-d.result c.args.table.now c.args.s c.from-goal.result c.requires.0 (held c.args.ds.now) c.beyond-rest.result c.diameter-d.ensures c.from-goal.ensures c.beyond-rest.ensures)

pub loop-other-preserved : goal.loop-other-preserved
loop-other-preserved c =
    let a = c.args in
    let l = c.loop-other in
    let k = l.other-iterator.next in
    let s = c.in-Some.ensures.steps in
    let sum = rw s.1 at c.cost.ensures in
    let e : c.next.new.self.next ≡ bit_and (k - 1) (a.s - 2 ^ lowest a.s) = s.3 ∙ ap (bit_and (k - 1)) l.invariant.0 in (
      s.2 ∙ l.invariant.0,
      rw e (sub_and (a.s - 2 ^ lowest a.s) (k - 1)),
      rw e (sym (kept_miss c.diameter-d.result a.table.now a.s c.from-goal.result c.requires.0 k s.0 l.invariant.1 (λ e. c.if-cost-goal.false (sum ∙ e)))) ∙ l.invariant.2,
    )

pub overflow_sub-result-2 : goal.overflow_sub-result-2
overflow_sub-result-2 c = omega (arith, c.beyond-rest.ensures)

pub returns : goal.returns
returns c =
    let l = c.loop-other in
    let d = c.diameter-d.result in
    let g = c.from-goal.result in
    omega (arith, c.beyond-rest.ensures, low_le c.args.s c.args.s c.requires.0 (self_lt c.args.s))
    ∙ sym (kept_none d c.args.table.now c.args.s g c.requires.0)
    ∙ ap (found d c.args.table.now c.args.s g) (sym c.in-None.ensures.steps)
    ∙ l.invariant.2
    ∙ (kept_start d c.args.table.now c.args.s g c.requires.0 (held c.args.ds.now) c.beyond-rest.result c.diameter-d.ensures c.from-goal.ensures c.beyond-rest.ensures)
