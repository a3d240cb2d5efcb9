-- Bellman's two facts: no split comes to less than the entry of a finished table, and the kept one comes to it.
use mathlib.Core.Path.{◌≡◌, refl, sym, ap, subst, ◌∙◌}
use mathlib.Core.Logic.{◌≢◌, ◌⊎◌, inl, inr, ⊎_elim}
use mathlib.Core.Bool.{Bool, true, false, false≢true}
use mathlib.Core.List.{List, [], ◌∷◌, foldl}
use Prim.Native.Nat.{ℕ, zero, suc, ◌+◌, ◌-◌, ◌*◌, ◌^◌, ◌≤◌, ◌<◌}
use native.Mathlib.Nat.{le_refl, le_trans, mul-le-mul_right}
use native.Mathlib.Decide.{dec_lt, ℕ_discrete}
use native.Mathlib.Omega.{arith}
use lib.Dec.{eqb}
use lib.ListN.{get_or}
use lib.Bits.{and_self}
use lib.Count.{ones, ones-le}
use borrow.Author.Tests.{eq-eqb, ne_eqb}
use Rattle.subsets.specs.Kept.{first_or, kept_part}
use Rattle.subsets.specs.Subsets.{is_part, lowest, splits}
use Rattle.subsets.specs.Table.{better_at, blank, blank_of, cost_of}
use Rattle.subsets.proofs.Digits.{ones_rest}
use Rattle.subsets.proofs.Finished.{Finished}
use Rattle.subsets.proofs.KeptParts.{Part, first_no, first_yes, low_part, ones_pos}
use Rattle.subsets.proofs.Splits.{down, down_keep, down_skip, is_part_lem, splits_down}

-- ---- a least is at most each, and is one of them

module _ (d : ℕ) (t : List ℕ) (s : ℕ) where
  pub least_le : (v : ℕ) (l : List ℕ) → foldl (better_at d t s) v l ≤ v
  least_le v [] = le_refl v
  least_le v (a ∷ l) = le_trans (least_le (better_at d t s v a) l) (omega arith)

  least_part : (a k v : ℕ) → is_part s a ≡ true → a < s → s - a ≤ k → k ≤ s → foldl (better_at d t s) v (down s k) ≤ d + get_or t a 0 + get_or t (s - a) 0
  least_part a zero v e h l m = absurd (omega arith)
  least_part a (suc k) v e h l m = go (is_part s (s - suc k)) refl (λ w. least_part a k w e h) (ℕ_discrete (s - suc k) a)
    where
      go : (b : Bool) → is_part s (s - suc k) ≡ b → ((w : ℕ) → s - a ≤ k → k ≤ s → foldl (better_at d t s) w (down s k) ≤ d + get_or t a 0 + get_or t (s - a) 0) → Dec (s - suc k ≡ a)
          → foldl (better_at d t s) v (down s (suc k)) ≤ d + get_or t a 0 + get_or t (s - a) 0
      go true eb ih (yes c) =
          subst (λ (x : List ℕ). foldl (better_at d t s) v x ≤ d + get_or t a 0 + get_or t (s - a) 0) (sym (down_keep s k eb))
          (le_trans (least_le (better_at d t s v (s - suc k)) (down s k))
          (subst (λ (x : ℕ). better_at d t s v x ≤ d + get_or t a 0 + get_or t (s - a) 0) (sym c) (omega arith)))
      go true eb ih (no c) =
          subst (λ (x : List ℕ). foldl (better_at d t s) v x ≤ d + get_or t a 0 + get_or t (s - a) 0) (sym (down_keep s k eb))
          (ih (better_at d t s v (s - suc k)) (omega arith) (omega arith))
      go false eb ih (yes c) = absurd (false≢true (sym eb ∙ ap (is_part s) c ∙ e))
      go false eb ih (no c) =
          subst (λ (x : List ℕ). foldl (better_at d t s) v x ≤ d + get_or t a 0 + get_or t (s - a) 0) (sym (down_skip s k eb)) (ih v (omega arith) (omega arith))

  -- the first that comes to the least, unless the least is what the search began with
  least_first : (o m v : ℕ) (l : List ℕ) → m ≡ foldl (better_at d t s) v l
      → (m ≡ v) ⊎ (d + get_or t (first_or (λ a. eqb (d + get_or t a 0 + get_or t (s - a) 0) m) o l) 0 + get_or t (s - first_or (λ a. eqb (d + get_or t a 0 + get_or t (s - a) 0) m) o l) 0 ≡ m)
  least_first o m v [] e = inl e
  least_first o m v (a ∷ l) e = go (ℕ_discrete (d + get_or t a 0 + get_or t (s - a) 0) m) (least_first o m (better_at d t s v a) l e)
    where
      p : ℕ → Bool
      p x = eqb (d + get_or t x 0 + get_or t (s - x) 0) m

      go : Dec (d + get_or t a 0 + get_or t (s - a) 0 ≡ m) → (m ≡ better_at d t s v a) ⊎ (d + get_or t (first_or p o l) 0 + get_or t (s - first_or p o l) 0 ≡ m)
          → (m ≡ v) ⊎ (d + get_or t (first_or p o (a ∷ l)) 0 + get_or t (s - first_or p o (a ∷ l)) 0 ≡ m)
      go (yes c) r =
          inr (subst (λ (x : ℕ). d + get_or t x 0 + get_or t (s - x) 0 ≡ m) (sym (first_yes p o a l (eq-eqb (d + get_or t a 0 + get_or t (s - a) 0) m c))) c)
      go (no c) (inl r) = inl (omega arith)
      go (no c) (inr r) =
          inr (subst (λ (x : ℕ). d + get_or t x 0 + get_or t (s - x) 0 ≡ m) (sym (first_no p o a l (ne_eqb (d + get_or t a 0 + get_or t (s - a) 0) m c))) r)

pub large : (c : ℕ) → 2 ≤ c → blank c ≡ 4294967295
large zero g = absurd (omega arith)
large (suc zero) g = absurd (omega arith)
large (suc (suc c)) g = refl

pub small_blank : (c : ℕ) → c < 2 → blank c ≡ 0
small_blank zero g = refl
small_blank (suc zero) g = refl
small_blank (suc (suc c)) g = absurd (omega arith)

-- ---- Bellman's two facts

module _ (δ : ℕ → ℕ) (b : ℕ) (t : List ℕ) (done : Finished δ b t) where
  -- no split comes to less than the entry
  pub best_le : (s a : ℕ) → s < b → a < s → is_part s a ≡ true → get_or t s 0 ≤ cost_of δ t s a
  best_le s a h l e =
      subst (λ (x : ℕ). x ≤ cost_of δ t s a) (sym (done.entry s (omega arith) h ∙ ap (foldl (better_at (δ s) t s) (blank_of s)) (splits_down s)))
      (least_part (δ s) t s a s (blank_of s) e l (omega arith) (le_refl s))

  -- the kept split comes to the entry, unless the entry is the largest number
  pub best_kept : (s : ℕ) → 0 < s → s < b → get_or t s 0 ≢ blank_of s → cost_of δ t s (kept_part δ t s) ≡ get_or t s 0
  unfolding kept_part
  best_kept s h l ne =
      ⊎_elim (λ e. absurd (ne e)) (λ e. e) (least_first (δ s) t s (2 ^ lowest s) (get_or t s 0) (blank_of s) (splits s) (done.entry s h l))

-- ---- where no diameter is above D, and D is small, no entry of two sinks or more is the largest number

module _ (δ : ℕ → ℕ) (b : ℕ) (t : List ℕ) (done : Finished δ b t) (D : ℕ) (far : (s : ℕ) → δ s ≤ D) where
  bound : (f s : ℕ) → s ≤ f → 0 < s → s < b → get_or t s 0 + D ≤ ones s * D
  bound zero s l h k = absurd (omega arith)
  bound (suc f) s l h k = go (λ x. bound f x) (dec_lt (ones s) 2)
    where
      go : ((x : ℕ) → x ≤ f → 0 < x → x < b → get_or t x 0 + D ≤ ones x * D) → Dec (ones s < 2) → get_or t s 0 + D ≤ ones s * D
      go ih (yes w) =
          let o : ones s ≡ 1 = omega (arith, ones_pos s h) in
          let z : get_or t s 0 ≤ blank (ones s) = subst (λ (x : ℕ). x ≤ blank (ones s)) (sym (done.entry s h k)) (least_le (δ s) t s (blank_of s) (splits s)) in
          let y : blank (ones s) ≡ 0 = ap blank o in
          subst (λ (x : ℕ). get_or t s 0 + D ≤ x * D) (sym o) (omega arith)
      go ih (no w) =
          let o : 2 ≤ ones s = omega arith in
          let p : Part s (2 ^ lowest s) = low_part s h o in
          let e : s - (s - 2 ^ lowest s) ≡ 2 ^ lowest s = omega (arith, p.1) in
          let i : is_part s (2 ^ lowest s) ≡ true = ap (is_part s) (sym e) ∙ is_part_lem s h (s - 2 ^ lowest s) (and_self (s - 2 ^ lowest s)) in
          omega (
            arith,
            best_le δ b t done s (2 ^ lowest s) k p.1 i,
            far s,
            ih (2 ^ lowest s) (omega (arith, p.1)) p.0 (omega (arith, p.1)),
            ih (s - 2 ^ lowest s) (omega (arith, p.0)) (omega (arith, p.1)) (omega (arith, p.0)),
            ap (λ (x : ℕ). x * D) (ones_rest s (2 ^ lowest s) p.2),
          )

  -- an entry is at most the greatest distance, once for each join
  pub best_bound : (s : ℕ) → 0 < s → s < b → get_or t s 0 + D ≤ ones s * D
  best_bound s h k = bound s s (le_refl s) h k

  -- so it is no blank
  pub entry_small : b ≤ 2 ^ 12 → D ≤ 2 ^ 28 → (s : ℕ) → 0 < s → s < b → get_or t s 0 < 4294967295
  entry_small small hD s h k =
      let m : ones s ≤ 12 = ones-le 12 s (le_trans k small) in
      omega (arith, best_bound s h k, mul-le-mul_right D m, hD)

  -- the kept split comes to the entry
  pub best_is_kept : b ≤ 2 ^ 12 → D ≤ 2 ^ 28 → (s : ℕ) → 0 < s → s < b → 2 ≤ ones s → cost_of δ t s (kept_part δ t s) ≡ get_or t s 0
  best_is_kept small hD s h k o = best_kept δ b t done s h k (λ e. omega (arith, entry_small small hD s h k, large (ones s) o))
