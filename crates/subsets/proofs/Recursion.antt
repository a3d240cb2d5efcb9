-- Best meets document 01's recursion, and a finished table holds it.
use mathlib.Core.Path.{◌≡◌, refl, sym, ap, ap₂, subst, ◌∙◌}
use mathlib.Core.Bool.{Bool, cond}
use mathlib.Core.List.{List, [], ◌∷◌, foldl}
use Prim.Native.Nat.{ℕ, zero, suc, ◌+◌, ◌-◌, ◌^◌, ◌≤◌, ◌<◌, min}
use native.Mathlib.Nat.{le_refl}
use native.Mathlib.Decide.{dec_lt}
use native.Mathlib.Omega.{arith}
use lib.ListN.{length, get_or}
use lib.Pow.{pow_mono}
use lib.Count.{ones}
use borrow.Author.Tests.{lt-ltb, le-ltb}
use Rattle.subsets.specs.Best.{best, best_in, least_of}
use Rattle.subsets.specs.Subsets.{splits}
use Rattle.subsets.specs.Table.{better_at, blank_of}
use Rattle.subsets.proofs.Bellman.{entry_small, large, least_le, small_blank}
use Rattle.subsets.proofs.Finished.{Finished}
use Rattle.subsets.proofs.Scan.{Parts, parts_splits}
use Rattle.subsets.proofs.Splits.{splits_count}

-- ---- the least of a list

-- only the parts of s matter
pub least_ext : (f g : ℕ → ℕ) (s : ℕ) (l : List ℕ) → Parts s l → ((a : ℕ) → 0 < a → a < s → f a ≡ g a) → least_of f l ≡ least_of g l
unfolding least_of
least_ext f g s [] p e = refl
least_ext f g s (a ∷ []) p e = e a p.0 p.1
least_ext f g s (a ∷ (b ∷ l)) p e = ap₂ min (e a p.0 p.1) (least_ext f g s (b ∷ l) p.3 e)

-- the least so far is the least of what was examined
pub fold_least : (w : ℕ) (t : List ℕ) (s v a : ℕ) (l : List ℕ) → foldl (better_at w t s) v (a ∷ l) ≡ min v (w + least_of (λ x. get_or t x 0 + get_or t (s - x) 0) (a ∷ l))
unfolding least_of
fold_least w t s v a [] = omega arith
fold_least w t s v a (b ∷ l) = fold_least w t s (better_at w t s v a) b l ∙ omega arith

-- ---- best

module _ (δ : ℕ → ℕ) where
  abbrev sums_of : ℕ → ℕ → ℕ → ℕ
  sums_of f m a = best_in δ f a + best_in δ f (m - a)

  in_single : (f m : ℕ) → ones m < 2 → best_in δ f m ≡ 0
  unfolding best_in
  in_single zero m o = refl
  in_single (suc f) m o = ap (λ (b : Bool). cond b 0 (δ m + least_of (sums_of f m) (splits m))) (lt-ltb (ones m) 2 o)

  in_step : (f m : ℕ) → 2 ≤ ones m → best_in δ (suc f) m ≡ δ m + least_of (sums_of f m) (splits m)
  unfolding best_in
  in_step f m o = ap (λ (b : Bool). cond b 0 (δ m + least_of (sums_of f m) (splits m))) (le-ltb (ones m) 2 o)

  -- any number of turns that is enough gives the same
  turns : (f g m : ℕ) → 0 < m → m ≤ f → m ≤ g → best_in δ f m ≡ best_in δ g m
  turns zero g m h l r = absurd (omega arith)
  turns (suc f) zero m h l r = absurd (omega arith)
  turns (suc f) (suc g) m h l r = go (λ x. turns f g x) (dec_lt (ones m) 2)
    where
      go : ((x : ℕ) → 0 < x → x ≤ f → x ≤ g → best_in δ f x ≡ best_in δ g x) → Dec (ones m < 2) → best_in δ (suc f) m ≡ best_in δ (suc g) m
      go ih (yes o) = in_single (suc f) m o ∙ sym (in_single (suc g) m o)
      go ih (no o) =
          let o2 : 2 ≤ ones m = omega arith in
          in_step f m o2
          ∙ ap (λ (x : ℕ). δ m + x) (least_ext (sums_of f m) (sums_of g m) m (splits m) (parts_splits m h)
          (λ a p q. ap₂ (λ (x y : ℕ). x + y) (ih a p (omega arith) (omega arith)) (ih (m - a) (omega arith) (omega arith) (omega arith))))
          ∙ sym (in_step g m o2)

  -- "best = 0 for a single sink"
  pub best_single : (m : ℕ) → ones m < 2 → best δ m ≡ 0
  best_single m o = in_single m m o

  -- "otherwise best = d + the least sum of best over the two parts of a split"
  pub best_split : (m : ℕ) → 0 < m → 2 ≤ ones m → best δ m ≡ δ m + least_of (λ a. best δ a + best δ (m - a)) (splits m)
  best_split m h o =
      turns m (suc m) m h (le_refl m) (omega arith)
      ∙ in_step m m o
      ∙ ap (λ (x : ℕ). δ m + x) (least_ext (sums_of m m) (λ a. best δ a + best δ (m - a)) m (splits m) (parts_splits m h)
      (λ a p q. ap₂ (λ (x y : ℕ). x + y) (turns m a a p (omega arith) (le_refl a)) (turns m (m - a) (m - a) (omega arith) (omega arith) (le_refl (m - a)))))

-- ---- a table whose subsets below b are finished holds it

module _ (δ : ℕ → ℕ) (b : ℕ) (small : b ≤ 2 ^ 12) (t : List ℕ) (done : Finished δ b t) (D : ℕ) (far : (s : ℕ) → δ s ≤ D) (near : D ≤ 2 ^ 28) where
  holds_to : (f s : ℕ) → s ≤ f → 0 < s → s < b → get_or t s 0 ≡ best δ s
  holds_to zero s l h k = absurd (omega arith)
  holds_to (suc f) s l h k = go (λ x. holds_to f x) (dec_lt (ones s) 2)
    where
      sums_are : ((x : ℕ) → x ≤ f → 0 < x → x < b → get_or t x 0 ≡ best δ x) → least_of (λ a. get_or t a 0 + get_or t (s - a) 0) (splits s) ≡ least_of (λ a. best δ a + best δ (s - a)) (splits s)
      sums_are ih = least_ext (λ a. get_or t a 0 + get_or t (s - a) 0) (λ a. best δ a + best δ (s - a)) s (splits s) (parts_splits s h)
          (λ a p q. ap₂ (λ (x y : ℕ). x + y) (ih a (omega arith) p (omega arith)) (ih (s - a) (omega arith) (omega arith) (omega arith)))

      scanned : (l : List ℕ) → splits s ≡ l → 2 ≤ ones s → get_or t s 0 ≡ δ s + least_of (λ a. get_or t a 0 + get_or t (s - a) 0) (splits s)
      scanned [] e o = absurd (omega (arith, splits_count s h, ap length e, pow_mono {i = 2} {j = ones s} o))
      scanned (a ∷ l) e o =
          let c : get_or t s 0 ≡ min (blank_of s) (δ s + least_of (λ x. get_or t x 0 + get_or t (s - x) 0) (a ∷ l)) =
          done.entry s h k ∙ ap (foldl (better_at (δ s) t s) (blank_of s)) e ∙ fold_least (δ s) t s (blank_of s) a l in
          let w : get_or t s 0 ≡ δ s + least_of (λ x. get_or t x 0 + get_or t (s - x) 0) (a ∷ l) = omega (arith, c, entry_small δ b t done D far small near s h k, large (ones s) o) in
          w ∙ ap (λ (z : List ℕ). δ s + least_of (λ x. get_or t x 0 + get_or t (s - x) 0) z) (sym e)

      go : ((x : ℕ) → x ≤ f → 0 < x → x < b → get_or t x 0 ≡ best δ x) → Dec (ones s < 2) → get_or t s 0 ≡ best δ s
      go ih (yes o) =
          let z : get_or t s 0 ≤ blank_of s = subst (λ (x : ℕ). x ≤ blank_of s) (sym (done.entry s h k)) (least_le (δ s) t s (blank_of s) (splits s)) in
          omega (arith, z, small_blank (ones s) o, best_single δ s o)
      go ih (no o) =
          let o2 : 2 ≤ ones s = omega arith in
          scanned (splits s) refl o2 ∙ ap (λ (x : ℕ). δ s + x) (sums_are ih) ∙ sym (best_split δ s h o2)

  -- "finished subsets hold best"
  pub holds_best : (s : ℕ) → 0 < s → s < b → get_or t s 0 ≡ best δ s
  holds_best s h k = holds_to s s (le_refl s) h k
