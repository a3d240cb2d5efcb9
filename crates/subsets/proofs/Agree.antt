-- Diameters that agree on the subsets of the sinks give the same table and the same kept splits.
use mathlib.Core.Path.{◌≡◌, refl, ap, ap₂, ◌∙◌}
use mathlib.Core.Bool.{Bool, true, false, cond}
use mathlib.Core.List.{List, [], ◌∷◌, foldl}
use Prim.Native.Nat.{ℕ, zero, suc, ◌+◌, ◌-◌, ◌^◌, ◌<◌, min}
use native.Mathlib.Omega.{arith}
use lib.Dec.{ltb}
use lib.Count.{ones}
use lib.ListN.{get_or, set, take}
use borrow.Author.Tests.{ltb-false}
use Rattle.zero_skew.specs.Order.{one, both}
use Rattle.subsets.specs.Subsets.{lowest, splits}
use Rattle.subsets.specs.Table.{blanks, step_of, steps, table_after}
use Rattle.subsets.specs.Kept.{first_or, kept_in, kept_part}
use Rattle.subsets.proofs.Filling.{Inside, inside_steps, inside_take}
use Rattle.subsets.proofs.KeptParts.{kept_part_lem, meets_at}

module _ (δ ε : ℕ → ℕ) (k : ℕ) (agree : (m : ℕ) → m < k → δ m ≡ ε m) where
  fold_agree : (l : List (ℕ × ℕ)) (t : List ℕ) → Inside k l → foldl (step_of δ) t l ≡ foldl (step_of ε) t l
  fold_agree [] t h = refl
  fold_agree (p ∷ l) t h =
      ap (λ (x : ℕ). foldl (step_of δ) (set t p.0 (min (get_or t p.0 0) (x + get_or t p.1 0 + get_or t (p.0 - p.1) 0))) l) (agree p.0 h.0)
      ∙ fold_agree l (step_of ε t p) h.2

  part_agree : (t : List ℕ) (m : ℕ) → m < k → kept_part δ t m ≡ kept_part ε t m
  unfolding kept_part
  part_agree t m h = ap (λ (x : ℕ). first_or (meets_at x t m (get_or t m 0)) (2 ^ lowest m) (splits m)) (agree m h)

  pub kept_agree : (t : List ℕ) (turns m : ℕ) → 0 < m → m < k → kept_in δ t turns m ≡ kept_in ε t turns m
  unfolding kept_in
  kept_agree t zero m h l = refl
  kept_agree t (suc turns) m h l = go (ltb (ones m) 2) refl (kept_agree t turns)
    where
      go : (b : Bool) → ltb (ones m) 2 ≡ b → ((x : ℕ) → 0 < x → x < k → kept_in δ t turns x ≡ kept_in ε t turns x)
          → cond b (one (lowest m)) (both (kept_in δ t turns (kept_part δ t m)) (kept_in δ t turns (m - kept_part δ t m)))
          ≡ cond b (one (lowest m)) (both (kept_in ε t turns (kept_part ε t m)) (kept_in ε t turns (m - kept_part ε t m)))
      go true e ih = refl
      go false e ih =
          let p = kept_part_lem δ t m h (ltb-false (ones m) 2 e) in
          ap₂ both (ih (kept_part δ t m) p.0 (omega (arith, p.1))) (ih (m - kept_part δ t m) (omega (arith, p.1)) (omega (arith, p.0, p.1)))
          ∙ ap (λ (a : ℕ). both (kept_in ε t turns a) (kept_in ε t turns (m - a))) (part_agree t m l)

pub table_agree : (δ ε : ℕ → ℕ) (n budget : ℕ) → ((m : ℕ) → m < 2 ^ n → δ m ≡ ε m) → table_after δ n budget ≡ table_after ε n budget
unfolding table_after
table_agree δ ε n budget agree = fold_agree δ ε (2 ^ n) agree (take budget (steps n)) (blanks n) (inside_take (2 ^ n) budget (steps n) (inside_steps n))
