-- Entries of a run move up, once two of them have left.
use mathlib.Core.Path.{◌≡◌, refl, ap, ◌∙◌}
use mathlib.Core.Logic.{⊎_elim}
use mathlib.Core.Bool.{Bool, true, false}
use Prim.Native.Nat.{ℕ, suc, ◌+◌, ◌-◌, ◌≤◌, ◌<◌}
use native.Mathlib.Omega.{arith}
use borrow.Author.Tests.{eqb-true, eqb-false, lt-ltb, le-ltb}
use lib.Dec.{eqb}
use Rattle.lists.proofs.Tests.{or_lt}
use Rattle.partners.specs.Rows.{skip, Shifts}

-- ---- where they came from
pub skip_before : (a s : ℕ) → s < a → skip a s ≡ s
unfolding skip
skip_before a s h = rw (lt-ltb s a h)

pub skip_after : (a s : ℕ) → a ≤ s → skip a s ≡ suc s
unfolding skip
skip_after a s h = rw (le-ltb s a h)

pub skip_under : (a t : ℕ) → skip a t ≤ suc t
skip_under a t = ⊎_elim (λ p. omega (arith, skip_before a t p)) (λ p. omega (arith, skip_after a t p)) (or_lt t a)

pub skip_suc : (a t : ℕ) → skip (suc a) (suc t) ≡ suc (skip a t)
skip_suc a t =
    ⊎_elim (λ p. omega (arith, skip_before a t p, skip_before (suc a) (suc t) (omega arith))) (λ p. omega (arith, skip_after a t p, skip_after (suc a) (suc t) (omega arith))) (or_lt t a)

pub skip_up : (a s t : ℕ) → s < t → skip a s < skip a t
skip_up a s t h =
    ⊎_elim
    (λ p. omega (arith, skip_before a t p, skip_before a s (omega arith)))
    (λ p. omega (arith, skip_after a t p, skip_under a s))
    (or_lt t a)

-- ---- of n entries, a run moves up from its first on, as far as t
module _ {A : Type 0} {make : A → A} {n by : ℕ} where
  pub shifts_begin : (old : ℕ → A) (from : ℕ) → Shifts make n by from from old old
  shifts_begin old from = record { before = λ s h. refl; moved = λ s h l. absurd (omega arith); after = λ s h l. refl }

  pub shifts_turn : {from t : ℕ} {old mid new : ℕ → A} → Shifts make n by from t old mid → from ≤ t → t + by < n → new t ≡ make (mid (t + by)) → ((s : ℕ) → s < n → (s ≡ t → ⊥) → new s ≡ mid s) → Shifts make n by from (t + 1) old new
  shifts_turn {from} {t} {old} {mid} {new} v f h here others =
      record {
        before = λ s l. others s (omega arith) (λ q. omega (arith, q)) ∙ v.before s l;
        moved = λ s l g. go s l g (eqb s t) refl;
        after = λ s l g. others s g (λ q. omega (arith, q)) ∙ v.after s (omega arith) g;
      }
    where
      go : (s : ℕ) → from ≤ s → s < t + 1 → (q : Bool) → eqb s t ≡ q → new s ≡ make (old (s + by))
      go s l g true q = rw (eqb-true s t q) (here ∙ ap make (v.after (t + by) (omega arith) h))
      go s l g false q =
          let p = eqb-false s t q in
          others s (omega arith) p ∙ v.moved s l (omega (arith, p))

-- ---- those before a stay, those between a and b move up by one, those after b by two, and each is made anew on its way: so both have left
module _ {A : Type 0} {make : A → A} {n m : ℕ} {old first mid new : ℕ → A} (a b k : ℕ) (h : a < b) (l : k ≤ n) (u : (t : ℕ) → t < a → first t ≡ make (old t)) (o : (t : ℕ) → a ≤ t → t < n → first t ≡ old t) (v : Shifts make n 1 a (b - 1) first mid) (w : Shifts make m 2 (b - 1) (k - 2) mid new) where
  early : (t : ℕ) → t < b - 1 → t + 2 < k → mid t ≡ make (old (skip b (skip a t)))
  early t p g =
      ⊎_elim
      (λ q. (let e = skip_before a t q in let f : t ≡ skip b (skip a t) = omega (arith, skip_before b (skip a t) (omega arith)) in v.before t q ∙ u t q ∙ ap (λ (s : ℕ). make (old s)) f))
      (λ q. (let e = skip_after a t q in let f : t + 1 ≡ skip b (skip a t) = omega (arith, skip_before b (skip a t) (omega arith)) in v.moved t q p ∙ ap make (o (t + 1) (omega arith) (omega arith) ∙ ap old f)))
      (or_lt t a)

  late : (t : ℕ) → b - 1 ≤ t → t + 2 < k → mid (t + 2) ≡ old (skip b (skip a t))
  late t p g =
      let e = skip_after a t (omega arith) in
      let f : t + 2 ≡ skip b (skip a t) = omega (arith, skip_after b (skip a t) (omega arith)) in
      v.after (t + 2) (omega arith) (omega arith) ∙ o (t + 2) (omega arith) (omega arith) ∙ ap old f

  pub both_left : (t : ℕ) → t + 2 < k → new t ≡ make (old (skip b (skip a t)))
  both_left t g = ⊎_elim (λ p. w.before t p ∙ early t p g) (λ p. w.moved t p (omega arith) ∙ ap make (late t p g)) (or_lt t (b - 1))
