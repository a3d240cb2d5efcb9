-- The parts of a subset, in falling order.
use mathlib.Core.Path.{◌≡◌, refl, sym, ap, subst, ◌∙◌}
use mathlib.Core.Logic.{⊎_elim}
use mathlib.Core.Bool.{Bool, true, false}
use mathlib.Core.List.{List, ◌∷◌, Memᴰ}
use Prim.Native.Nat.{ℕ, zero, suc, ◌-◌, ◌≤◌, ◌<◌}
use native.Mathlib.Nat.{le_refl, lt_irrefl, lt_of_le_of_lt}
use native.Mathlib.Decide.{dec_le}
use native.Mathlib.Omega.{arith}
use lib.Bits.{bit_and, and_le_l}
use borrow.Author.Tests.{eq-eqb, eqb-true, ne_eqb}
use Rattle.lists.proofs.Tests.{or_lt}
use Rattle.lanes.specs.Blocks.{parts_to}
use Rattle.subsets.specs.Subsets.{keep_if, within}
use Rattle.subsets.proofs.Digits.{Sub, gap}

module _ (m : ℕ) where
  parts_keep : (x : ℕ) → Sub (suc x) m → parts_to m (suc x) ≡ suc x ∷ parts_to m x
  unfolding parts_to
  parts_keep x u = ap (λ (b : Bool). keep_if b (suc x) (parts_to m x)) (eq-eqb (bit_and (suc x) m) (suc x) u)

  parts_skip : (y x : ℕ) → y ≤ x → ((z : ℕ) → y < z → z ≤ x → Sub z m → ⊥) → parts_to m x ≡ parts_to m y
  unfolding parts_to
  parts_skip y zero h f = ap (parts_to m) (let e : 0 ≡ y = omega arith in e)
  parts_skip y (suc x) h f = go (parts_skip y x) (dec_le y x)
    where
      go : (y ≤ x → ((z : ℕ) → y < z → z ≤ x → Sub z m → ⊥) → parts_to m x ≡ parts_to m y) → Dec (y ≤ x) → parts_to m (suc x) ≡ parts_to m y
      go ih (yes k) =
          ap (λ (b : Bool). keep_if b (suc x) (parts_to m x)) (ne_eqb (bit_and (suc x) m) (suc x) (f (suc x) (omega arith) (le_refl (suc x))))
          ∙ ih k (λ z a b. f z a (omega arith))
      go ih (no k) = ap (parts_to m) (let e : suc x ≡ y = omega arith in e)

  -- the next part below x
  pub parts_next : (x : ℕ) → 0 < x → Sub x m → parts_to m x ≡ x ∷ parts_to m (bit_and (x - 1) m)
  parts_next zero h u = absurd (omega arith)
  parts_next (suc x) h u =
      parts_keep x u
      ∙ ap (λ (l : List ℕ). suc x ∷ l) (parts_skip (bit_and (suc x - 1) m) x (omega (arith, and_le_l (suc x - 1) m))
      (λ z a b v. lt_irrefl z (lt_of_le_of_lt (gap m (suc x) z u v (omega arith)) a)))

  pub in_parts : (k p : ℕ) → 0 < p → p ≤ k → Sub p m → Memᴰ p (parts_to m k)
  unfolding parts_to
  in_parts zero p h l u = absurd (omega arith)
  in_parts (suc k) p h l u = ⊎_elim (λ less. go (within (suc k) m) (in_parts k p h (omega arith) u)) here (or_lt p (suc k))
    where
      go : (b : Bool) → Memᴰ p (parts_to m k) → Memᴰ p (keep_if b (suc k) (parts_to m k))
      go true r = Memᴰ.tail r
      go false r = r

      here : suc k ≤ p → Memᴰ p (parts_to m (suc k))
      here g =
          let e : p ≡ suc k = omega arith in
          subst (Memᴰ p) (sym (parts_keep k (subst (λ (x : ℕ). Sub x m) e u))) (Memᴰ.head e)

  pub parts_in : (k p : ℕ) → Memᴰ p (parts_to m k) → (0 < p) × (p ≤ k) × Sub p m
  unfolding parts_to
  parts_in zero p h = elim h [ ]
  parts_in (suc k) p h = go (within (suc k) m) refl (parts_in k p) h
    where
      go : (b : Bool) → within (suc k) m ≡ b → (Memᴰ p (parts_to m k) → (0 < p) × (p ≤ k) × Sub p m) → Memᴰ p (keep_if b (suc k) (parts_to m k)) → (0 < p) × (p ≤ suc k) × Sub p m
      go true e ih (Memᴰ.head q) = (omega arith, omega arith, subst (λ (x : ℕ). Sub x m) (sym q) (eqb-true (bit_and (suc k) m) (suc k) e))
      go true e ih (Memᴰ.tail r) = ((ih r).0, omega (arith, (ih r).1), (ih r).2)
      go false e ih r = ((ih r).0, omega (arith, (ih r).1), (ih r).2)
