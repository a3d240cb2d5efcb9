-- Document 01, "Joining by least diameter": the joining order.
use Rattle.std.specs.Prelude.{List, [], ◌∷◌, ◌++◌, ℕ, zero, suc, ◌-◌, length, get_or}
use Rattle.lists.specs.Grow.{tab, up_to}
use Rattle.zero_skew.specs.Plane.{Sinks}
use Rattle.zero_skew.specs.Box.{diameter}
use Rattle.partners.specs.declared.pair.Pair.{Pair}
use Rattle.partners.specs.Closest.{pair, best, after}

-- where entry k of `sets` has the sinks below node k
abbrev pub below : List (List ℕ) → Pair → List ℕ
below sets p = get_or sets p.low [] ++ get_or sets p.high []

-- the diameter of the union of two nodes
abbrev pub union : Sinks → List (List ℕ) → ℕ → ℕ → ℕ
union s sets a b = diameter s (below sets (pair a b))

abbrev pub chosen : Sinks → List (List ℕ) → List ℕ → Pair
chosen s sets live = best (union s sets) live

-- k joins, two node numbers for each
unfoldable pub joins : Sinks → ℕ → List (List ℕ) → List ℕ → List ℕ
joins s zero sets live = []
joins s (suc k) sets live =
    (chosen s sets live).low ∷ (chosen s sets live).high ∷
    joins s k (sets ++ (below sets (chosen s sets live) ∷ [])) (after (chosen s sets live) (length sets) live)

-- "Begin with all sinks": each sink is a live node over itself alone.
abbrev pub alone : ℕ → List (List ℕ)
alone n = tab (λ i. i ∷ []) n

-- the joining order of n sinks
unfoldable pub order : Sinks → ℕ → List ℕ
order s n = joins s (n - 1) (alone n) (up_to n)
