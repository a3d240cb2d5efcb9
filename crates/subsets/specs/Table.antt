-- Document 01, "The exact search": the work table, after any number of steps. d is the diameter of each subset.
use mathlib.Core.List.{List, [], ◌∷◌, ◌++◌, map, foldl}
use Rattle.std.specs.Prelude.{ℕ, zero, suc, ◌+◌, ◌-◌, ◌^◌, min, get_or, set, take}
use Rattle.std.specs.Int.Count.{ones}
use Rattle.subsets.specs.Subsets.{rising, splits}

-- what the split of m into a and the rest comes to, by the table
abbrev pub cost_of : (ℕ → ℕ) → List ℕ → ℕ → ℕ → ℕ
cost_of d t m a = d m + get_or t a 0 + get_or t (m - a) 0

-- "Examining one split is one step": of the subset p.0, into p.1 and the rest. The entry becomes the least so far.
abbrev pub step_of : (ℕ → ℕ) → List ℕ → ℕ × ℕ → List ℕ
step_of d t p = set t p.0 (min (get_or t p.0 0) (cost_of d t p.0 p.1))

abbrev pub pair_up : ℕ → ℕ → ℕ × ℕ
pair_up m a = (m, a)

-- all steps of the subsets in a list
unfoldable pub steps_of : List ℕ → List (ℕ × ℕ)
steps_of [] = []
steps_of (m ∷ l) = map (pair_up m) (splits m) ++ steps_of l

-- "Subsets go in rising order."
unfoldable pub steps : ℕ → List (ℕ × ℕ)
steps n = steps_of (rising (2 ^ n - 1) 1)

-- before the first step: "subsets of two or more without an examined split hold 4,294,967,295; the empty set and single sinks hold 0"
abbrev pub blank : ℕ → ℕ
blank zero = 0
blank (suc zero) = 0
blank (suc (suc k)) = 4294967295

abbrev pub blank_of : ℕ → ℕ
blank_of m = blank (ones m)

unfoldable pub blanks : ℕ → List ℕ
blanks n = map blank_of (rising (2 ^ n) 0)

-- the table of 2^n numbers after k steps
unfoldable pub table_after : (ℕ → ℕ) → ℕ → ℕ → List ℕ
table_after d n k = foldl (step_of d) (blanks n) (take k (steps n))

-- for the code alone: the least so far, after the split of m into a and the rest is examined, where w is m's diameter
abbrev pub better_at : ℕ → List ℕ → ℕ → ℕ → ℕ → ℕ
better_at w t m v a = min v (w + get_or t a 0 + get_or t (m - a) 0)
