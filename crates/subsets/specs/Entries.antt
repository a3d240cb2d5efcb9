-- Document 01, "The exact search": the work table after the call, entry by entry. d is the diameter of each subset.
use Rattle.std.specs.Prelude.{cond, List, [], ◌∷◌, ℕ, ◌+◌, ◌-◌, ltb, length, take}
use Rattle.std.specs.Int.Count.{ones}
use Rattle.subsets.specs.Subsets.{rising, splits}
use Rattle.subsets.specs.Best.{least_of, best}
use Rattle.subsets.specs.Table.{steps_of}

-- those splits of m that are examined in the first k steps: the steps of smaller subsets come before
unfoldable pub examined : ℕ → ℕ → List ℕ
examined k m = take (k - length (steps_of (rising (m - 1) 1))) (splits m)

-- "the subset in progress holds d plus the least sum examined so far; subsets of two or more without an examined split hold 4,294,967,295"
abbrev pub held_by : (ℕ → ℕ) → ℕ → List ℕ → ℕ
held_by d m [] = 4294967295
held_by d m (a ∷ l) = d m + least_of (λ x. best d x + best d (m - x)) (a ∷ l)

-- "the empty set and single sinks hold 0"
unfoldable pub entry_after : (ℕ → ℕ) → ℕ → ℕ → ℕ
entry_after d k m = cond (ltb (ones m) 2) 0 (held_by d m (examined k m))
