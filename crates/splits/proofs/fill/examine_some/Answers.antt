use mathlib.Core.Path.{refl, ap, ◌∙◌}
use mathlib.Core.Logic.{inl, inr}
use Prim.Native.Nat.{ℕ, ◌-◌, ◌+◌}
use native.Mathlib.Omega.{arith}
use lib.ListN.{get_or}
use Rattle.subsets.proofs.Scan.{scan_end, scan_start, scan_turn}
use Rattle.splits.proofs.fill.examine_some.Goals as goal

pub loop-other-init : goal.loop-other-init
loop-other-init c =
    let a = c.args in
    let o = c.of-other-items.ensures in
    rw c.into_iter-other-iterator.ensures.into_iter_gives (
      omega (arith, c.type_inv.table a.s),
      o.0 ∙ c.beyond.ensures,
      rw o.1 (scan_start a.d a.table.now a.s c.requires.0 a.budget c.beyond.result (get_or a.table.now a.s 0) c.beyond.ensures refl),
    )

pub returns-in-None : goal.returns-in-None
returns-in-None c =
    let l = c.loop-other in
    scan_end c.args.d c.args.table.now c.args.s c.requires.0 c.args.budget l.other-iterator.next l.left l.best l.invariant.2 (inl c.in-None.ensures.steps)

pub returns-then-left-eq0 : goal.returns-then-left-eq0
returns-then-left-eq0 c =
    let l = c.loop-other in
    scan_end c.args.d c.args.table.now c.args.s c.requires.0 c.args.budget l.other-iterator.next l.left l.best l.invariant.2 (inr c.if-left-eq0.true)

pub loop-other-preserved : goal.loop-other-preserved
loop-other-preserved c =
    let a = c.args in
    let l = c.loop-other in
    let i = l.invariant in
    let s = c.in-Some.ensures.steps in
    let sum = c.cost-sum.ensures ∙ ap (λ (x : ℕ). a.d + get_or a.table.now (a.s - x) 0 + get_or a.table.now x 0) s.1 in (
      omega arith,
      s.2 ∙ i.1,
      rw s.3
          (scan_turn a.d a.table.now a.s c.requires.0 a.budget l.other-iterator.whole l.other-iterator.next l.left l.best c.min-best.result
          i.1 i.2 s.0 (omega arith) (c.min-best.ensures ∙ omega (arith, sum, c.from.ensures))),
    )
