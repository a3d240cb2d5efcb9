-- The check of joins accepts the valid joining orders, and no other.
use mathlib.Core.Path.{◌≡◌, sym, ap, ◌∙◌}
use mathlib.Core.Logic.{⊎_elim}
use mathlib.Core.Bool.{false, not}
use mathlib.Core.List.{List}
use Prim.Native.Nat.{ℕ, ◌+◌, ◌-◌, ◌*◌, ◌/◌, ◌≤◌, ◌<◌, min}
use native.Mathlib.Omega.{arith}
use borrow.Author.Tests.{lt-leb, leb-false, eq-eqb, ne_eqb, eqb-true, eqb-false, not-false}
use lib.Dec.{eqb, leb, ltb}
use lib.ListN.{length, get_or}
use Rattle.lists.proofs.Tests.{or_lt}
use Rattle.lists.proofs.First.{any_no}
use Rattle.plane.proofs.Checks.{passed}
use Rattle.plane.specs.declared.refusal.Refusal.TheVariants.{Joins}
use Rattle.std.specs.Prelude.{Ok}
use Rattle.orders.specs.Joins.{left, right, named, bad_pair, first_bad, check_joins, Valid}
use Rattle.lists.proofs.Any.{any_none}
use Rattle.orders.proofs.Flags.{or_no}

-- entry j stands in pair j / 2, first or second
pub in_pair : (P : ℕ → Type 0) (j : ℕ) → (j ≡ 2 * (j / 2) → P j) → (j ≡ 2 * (j / 2) + 1 → P j) → P j
in_pair P j f g = ⊎_elim (λ h. f (omega arith)) (λ h. g (omega arith)) (or_lt j (2 * (j / 2) + 1))

unnamed : (js : List ℕ) (k x : ℕ) → named js k x ≡ false → (j : ℕ) → j < k → get_or js j 0 ≡ x → ⊥
unnamed js k x e j h = eqb-false (get_or js j 0) x (any_no (λ m. eqb (get_or js m 0) x) k e j h)

module _ (n : ℕ) (js : List ℕ) where
  -- a pair that is not bad
  record Fit (i : ℕ) : Type 0 where
    differ : left js i ≡ right js i → ⊥
    low_left : left js i < n + i
    low_right : right js i < n + i
    new_left : named js (2 * i) (left js i) ≡ false
    new_right : named js (2 * i) (right js i) ≡ false

  fit : (i : ℕ) → bad_pair n js i ≡ false → Fit i
  fit i e =
      let a = or_no (eqb (left js i) (right js i)) _ e in
      let b = or_no (leb (n + i) (left js i)) _ a.1 in
      let d = or_no (leb (n + i) (right js i)) _ b.1 in
      let g = or_no (named js (2 * i) (left js i)) _ d.1 in
      record {
        differ = eqb-false _ _ a.0;
        low_left = leb-false _ _ b.0;
        low_right = leb-false _ _ d.0;
        new_left = g.0;
        new_right = g.1;
      }

  module _ (good : (i : ℕ) → i < n - 1 → bad_pair n js i ≡ false) where
    apart : (i j : ℕ) → i < j → j < 2 * (n - 1) → get_or js i 0 ≡ get_or js j 0 → ⊥
    apart i j h l e =
        let f = fit (j / 2) (good (j / 2) (omega arith)) in
        in_pair (λ m. ⊥) j
        (λ q. unnamed js (2 * (j / 2)) (left js (j / 2)) f.new_left i (omega arith) (e ∙ ap (λ (m : ℕ). get_or js m 0) q))
        (λ q. ⊎_elim
        (λ r. unnamed js (2 * (j / 2)) (right js (j / 2)) f.new_right i r (e ∙ ap (λ (m : ℕ). get_or js m 0) q))
        (λ r. let z : i ≡ 2 * (j / 2) = omega arith in f.differ (ap (λ (m : ℕ). get_or js m 0) (sym z) ∙ e ∙ ap (λ (m : ℕ). get_or js m 0) q))
        (or_lt i (2 * (j / 2))))

  pub joins-valid : check_joins n js ≡ Ok tt → Valid n js
  unfolding check_joins
  joins-valid q =
      let (a, r) = passed (not (eqb (length js) (2 * (n - 1)))) (Joins (min (length js / 2) (n - 1))) _ q in
      let (b, _) = passed (ltb (first_bad n js) (n - 1)) (Joins (first_bad n js)) _ r in
      let good = any_no (bad_pair n js) (n - 1) b in
      record {
        count = eqb-true (length js) (2 * (n - 1)) (not-false (eqb (length js) (2 * (n - 1))) a);
        differ = λ i h. (fit i (good i h)).differ;
        low_left = λ i h. (fit i (good i h)).low_left;
        low_right = λ i h. (fit i (good i h)).low_right;
        once = apart good;
      }

  -- ---- and back
  new : Valid n js → (i j : ℕ) → 2 * i ≤ j → j < 2 * (n - 1) → named js (2 * i) (get_or js j 0) ≡ false
  new w i j h l = any_none (λ m. eqb (get_or js m 0) (get_or js j 0)) (2 * i) (λ m g. ne_eqb _ _ (w.once m j (omega arith) l))

  not_bad : Valid n js → (i : ℕ) → i < n - 1 → bad_pair n js i ≡ false
  not_bad w i h =
      rw (
        ne_eqb (left js i) (right js i) (w.differ i h),
        lt-leb (n + i) (left js i) (w.low_left i h),
        lt-leb (n + i) (right js i) (w.low_right i h),
        new w i (2 * i) (omega arith) (omega arith),
        new w i (2 * i + 1) (omega arith) (omega arith),
      )

  pub joins_accepted : Valid n js → check_joins n js ≡ Ok tt
  unfolding check_joins
  joins_accepted w = rw (eq-eqb (length js) (2 * (n - 1)) w.count, any_none (bad_pair n js) (n - 1) (not_bad w))
