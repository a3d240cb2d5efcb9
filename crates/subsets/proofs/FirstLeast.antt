-- "The first least sum is kept."
use mathlib.Core.Path.{◌≡◌, refl, sym, ap, ap₂, subst, ◌∙◌}
use mathlib.Core.Logic.{⊎_elim}
use mathlib.Core.Bool.{Bool, cond}
use mathlib.Core.List.{List, [], ◌∷◌, Memᴰ}
use Prim.Native.Nat.{ℕ, ◌+◌, ◌-◌, ◌^◌, ◌≤◌, ◌<◌}
use native.Mathlib.Decide.{ℕ_discrete}
use native.Mathlib.Omega.{arith}
use lib.Dec.{eqb}
use lib.Count.{ones}
use lib.ListN.{length, get_or}
use lib.Pow.{pow_mono}
use borrow.Author.Tests.{eq-eqb, ne_eqb}
use Rattle.lists.proofs.Tests.{or_le}
use Rattle.subsets.specs.Best.{best, least_of}
use Rattle.subsets.specs.Kept.{first_or, kept_part, meets}
use Rattle.subsets.specs.Subsets.{lowest, splits}
use Rattle.subsets.specs.Table.{cost_of}
use Rattle.subsets.proofs.Digits.{low}
use Rattle.subsets.proofs.Finished.{Finished}
use Rattle.subsets.proofs.KeptParts.{first_no, first_yes}
use Rattle.subsets.proofs.Recursion.{best_split, holds_best}
use Rattle.subsets.proofs.Scan.{Parts, parts_splits}
use Rattle.subsets.proofs.Splits.{splits_count}

-- a is the first of l with the least value of f: greater before it, no less after it
pub data FirstLeast (f : ℕ → ℕ) (a : ℕ) : List ℕ → Type 0 where
  here : {l : List ℕ} → ((x : ℕ) → Memᴰ x l → f a ≤ f x) → FirstLeast f a (a ∷ l)
  later : {x : ℕ} {l : List ℕ} → f a < f x → FirstLeast f a l → FirstLeast f a (x ∷ l)

least_under : (f : ℕ → ℕ) (l : List ℕ) (x : ℕ) → Memᴰ x l → least_of f l ≤ f x
unfolding least_of
least_under f [] x x3 = elim x3 [ ]
least_under f (a ∷ []) x (Memᴰ.head e) = omega (arith, ap f e)
least_under f (a ∷ []) x (Memᴰ.tail m) = elim m [ ]
least_under f (a ∷ (b ∷ l)) x (Memᴰ.head e) = omega (arith, ap f e)
least_under f (a ∷ (b ∷ l)) x (Memᴰ.tail m) = omega (arith, least_under f (b ∷ l) x m)

least_met : (f : ℕ → ℕ) (a : ℕ) (l : List ℕ) → (x : ℕ) × Memᴰ x (a ∷ l) × (least_of f (a ∷ l) ≡ f x)
unfolding least_of
least_met f a [] = (a, Memᴰ.head refl, refl)
least_met f a (b ∷ l) =
    let (x, m, e) = least_met f b l in
    ⊎_elim (λ h. (a, Memᴰ.head refl, omega arith)) (λ h. (x, Memᴰ.tail m, omega arith)) (or_le (f a) (least_of f (b ∷ l)))

-- the first with the value g, where g is the least
found_first : (f : ℕ → ℕ) (g o : ℕ) (l : List ℕ) → ((x : ℕ) → Memᴰ x l → g ≤ f x) → (y : ℕ) → Memᴰ y l → f y ≡ g
    → FirstLeast f (first_or (λ x. eqb (f x) g) o l) l × (f (first_or (λ x. eqb (f x) g) o l) ≡ g)
found_first f g o [] low y m e = elim m [ ]
found_first f g o (x ∷ l) low y m e = go (ℕ_discrete (f x) g) m (found_first f g o l (λ z h. low z (Memᴰ.tail h)) y)
  where
    p : ℕ → Bool
    p z = eqb (f z) g

    go : Dec (f x ≡ g) → Memᴰ y (x ∷ l) → (Memᴰ y l → f y ≡ g → FirstLeast f (first_or p o l) l × (f (first_or p o l) ≡ g)) → FirstLeast f (first_or p o (x ∷ l)) (x ∷ l) × (f (first_or p o (x ∷ l)) ≡ g)
    go (yes c) m ih =
        subst (λ (a : ℕ). FirstLeast f a (x ∷ l) × (f a ≡ g)) (sym (first_yes p o x l (eq-eqb (f x) g c))) (here (λ z h. omega (arith, low z (Memᴰ.tail h), c)), c)
    go (no c) (Memᴰ.head q) ih = absurd (c (ap f (sym q) ∙ e))
    go (no c) (Memᴰ.tail m) ih =
        let (r, w) = ih m e in
        let n : g ≤ f x = low x (Memᴰ.head refl) in
        subst (λ (a : ℕ). FirstLeast f a (x ∷ l) × (f a ≡ g)) (sym (first_no p o x l (ne_eqb (f x) g c))) (later (omega (arith, c)) r, w)

shifted : (c a b : ℕ) → eqb (c + a) (c + b) ≡ eqb a b
shifted c a b = go (ℕ_discrete a b)
  where
    go : Dec (a ≡ b) → eqb (c + a) (c + b) ≡ eqb a b
    go (yes e) = eq-eqb (c + a) (c + b) (ap (λ (x : ℕ). c + x) e) ∙ sym (eq-eqb a b e)
    go (no e) = ne_eqb (c + a) (c + b) (λ h. e (omega arith)) ∙ sym (ne_eqb a b e)

-- only the parts of s matter
first_ext : (p q : ℕ → Bool) (o s : ℕ) (l : List ℕ) → Parts s l → ((a : ℕ) → 0 < a → a < s → p a ≡ q a) → first_or p o l ≡ first_or q o l
unfolding first_or
first_ext p q o s [] k e = refl
first_ext p q o s (a ∷ l) k e = ap₂ (λ (b : Bool) (r : ℕ). cond b a r) (e a k.0 k.1) (first_ext p q o s l k.3 e)

module _ (δ : ℕ → ℕ) (b : ℕ) (small : b ≤ 2 ^ 12) (t : List ℕ) (done : Finished δ b t) (D : ℕ) (far : (s : ℕ) → δ s ≤ D) (near : D ≤ 2 ^ 28)
    (m : ℕ) (pos : 0 < m) (low : m < b) (two : 2 ≤ ones m) where
  abbrev sum_of : ℕ → ℕ
  sum_of a = best δ a + best δ (m - a)

  -- the part that is kept, by best alone: the first split whose sum is the least
  pub kept_is : kept_part δ t m ≡ first_or (λ a. eqb (best δ a + best δ (m - a)) (least_of sum_of (splits m))) (2 ^ lowest m) (splits m)
  unfolding kept_part
  kept_is =
      first_ext (meets δ t m) (λ a. eqb (sum_of a) (least_of sum_of (splits m))) (2 ^ lowest m) m (splits m) (parts_splits m pos)
      (λ a h l.
      let e1 : get_or t m 0 ≡ δ m + least_of sum_of (splits m) = holds_best δ b small t done D far near m pos low ∙ best_split δ m pos two in
      let e2 : cost_of δ t m a ≡ δ m + sum_of a =
      omega (arith, holds_best δ b small t done D far near a h (omega arith), holds_best δ b small t done D far near (m - a) (omega arith) (omega arith)) in
      ap₂ eqb e2 e1 ∙ shifted (δ m) (sum_of a) (least_of sum_of (splits m)))

  -- and so it is the first least
  pub kept_first : FirstLeast (λ a. best δ a + best δ (m - a)) (kept_part δ t m) (splits m)
  kept_first = subst (λ (a : ℕ). FirstLeast sum_of a (splits m)) (sym kept_is) (some (splits m) refl)
    where
      some : (l : List ℕ) → splits m ≡ l → FirstLeast sum_of (first_or (λ a. eqb (sum_of a) (least_of sum_of (splits m))) (2 ^ lowest m) (splits m)) (splits m)
      some [] e = absurd (omega (arith, splits_count m pos, ap length e, pow_mono {i = 2} {j = ones m} two))
      some (a ∷ l) e =
          let (y, h, w) = least_met sum_of a l in
          (found_first sum_of (least_of sum_of (splits m)) (2 ^ lowest m) (splits m) (least_under sum_of (splits m)) y
          (subst (Memᴰ y) (sym e) h) (sym w ∙ ap (least_of sum_of) (sym e))).0
