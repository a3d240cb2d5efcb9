-- Document 01, "The exact search": best, and the number of all steps. d is the diameter of each subset.
use Rattle.std.specs.Prelude.{cond, List, [], ◌∷◌, ℕ, zero, suc, ◌+◌, ◌-◌, ◌/◌, ◌^◌, min, ltb}
use Rattle.std.specs.Int.Count.{ones}
use Rattle.subsets.specs.Subsets.{splits}

-- the least value of f over a list (0 where the list is empty)
unfoldable pub least_of : (ℕ → ℕ) → List ℕ → ℕ
least_of f [] = 0
least_of f (a ∷ []) = f a
least_of f (a ∷ (b ∷ l)) = min (f a) (least_of f (b ∷ l))

-- "best = 0 for a single sink; otherwise best = d + the least sum of best over the two parts of a split." The size of a subset "is its count of ones". A part is a smaller number than the
-- whole, so that m turns are enough for m.
unfoldable pub best_in : (ℕ → ℕ) → ℕ → ℕ → ℕ
best_in d zero m = 0
best_in d (suc turns) m = cond (ltb (ones m) 2) 0 (d m + least_of (λ a. best_in d turns a + best_in d turns (m - a)) (splits m))

abbrev pub best : (ℕ → ℕ) → ℕ → ℕ
best d m = best_in d m m

-- "F(n) = (3^n + 1)/2 - 2^n"
abbrev pub step_count : ℕ → ℕ
step_count n = (3 ^ n + 1) / 2 - 2 ^ n
