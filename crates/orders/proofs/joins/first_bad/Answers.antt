use mathlib.Core.Path.{◌≡◌, refl, sym, ◌∙◌}
use Prim.Native.Nat.{◌-◌, ◌<◌}
use native.Mathlib.Omega.{arith}
use borrow.Author.Tests.{lt-ltb}
use lib.ListN.{length-set}
use Rattle.std.specs.Prelude.{true, ltb}
use Rattle.lists.proofs.First.{seek_begin, seek_go, seek_stop}
use Rattle.orders.specs.Joins.{bad_pair, first_bad}
use Rattle.orders.proofs.Flags.{flags_begin, flags_pair, bad_unlike, bad_left, bad_right, bad_not, pair_small, in_chunks}
use Rattle.orders.proofs.joins.first_bad.Goals as goal
use Rattle.orders.proofs.joins.first_bad.Goals.{then-is_unlike-via-then-is_unlike, then-is_unlike-via-else-is_unlike+then-named-a, then-is_unlike-via-else-is_unlike+else-named-a+then-named-b}

pub loop-i-init : goal.loop-i-init
loop-i-init c = (refl, seek_begin, flags_begin c.args.js.now)

pub returns-then-is_unlike : goal.returns-then-is_unlike
returns-then-is_unlike c =
    let n = c.args.n in
    let js = c.args.js.now in
    let i = c.loop-i.i in
    let h : i < n - 1 = omega (arith, c.loop-i-test.true, c.as_chunks.ensures.front_len, c.requires.2) in
    let p = in_chunks js i c.as_chunks.ensures.front (omega (arith, c.loop-i-test.true, c.as_chunks.ensures.front_len)) in
    let l = c.from-a.ensures ∙ p.0 in
    let r = c.from-b.ensures ∙ p.1 in
    let f = c.loop-i.invariant.2 in
    let bad : bad_pair n js i ≡ true = elim c.then-is_unlike.branch [
      | then-is_unlike-via-then-is_unlike w ↦ bad_unlike n js i _ _ l r (sym c.is_unlike.ensures ∙ w.if-is_unlike.true)
      | then-is_unlike-via-else-is_unlike+then-named-a w ↦ (
          let u = sym c.is_unlike.ensures ∙ w.if-is_unlike.false in
          let small = pair_small n i c.from-a.result c.from-b.result c.requires.1 h u in
          bad_left n js i _ _ l r u (sym (f _ (omega arith)) ∙ w.if-named-a.true))
      | then-is_unlike-via-else-is_unlike+else-named-a+then-named-b w ↦ (
          let u = sym c.is_unlike.ensures ∙ w.if-is_unlike.false in
          let small = pair_small n i c.from-a.result c.from-b.result c.requires.1 h u in
          bad_right n js i _ _ l r u (sym (f _ (omega arith)) ∙ w.if-named-b.true))
    ] in
    let e : i ≡ first_bad n js = seek_stop c.loop-i.invariant.1 h bad in
    let t : ltb (first_bad n js) (n - 1) ≡ true = lt-ltb _ _ (omega arith) in
    rw (t, ← e)

pub loop-i-preserved : goal.loop-i-preserved
loop-i-preserved c =
    let n = c.args.n in
    let js = c.args.js.now in
    let i = c.loop-i.i in
    let h : i < n - 1 = omega (arith, c.loop-i-test.true, c.as_chunks.ensures.front_len, c.requires.2) in
    let p = in_chunks js i c.as_chunks.ensures.front (omega (arith, c.loop-i-test.true, c.as_chunks.ensures.front_len)) in
    let l = c.from-a.ensures ∙ p.0 in
    let r = c.from-b.ensures ∙ p.1 in
    let u = sym c.is_unlike.ensures ∙ c.if-is_unlike.false in
    let small = pair_small n i c.from-a.result c.from-b.result c.requires.1 h u in
    let f = c.loop-i.invariant.2 in (
      simp length-set (omega arith),
      seek_go c.loop-i.invariant.1 h (bad_not n js i _ _ l r u (sym (f _ (omega arith)) ∙ c.if-named-a.false) (sym (f _ (omega arith)) ∙ c.if-named-b.false)),
      flags_pair js i _ _ c.loop-i.named l r (omega arith) (omega arith) f,
    )
