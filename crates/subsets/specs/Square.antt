-- The square of distances, by which the code finds a subset's diameter.
use Rattle.std.specs.Prelude.{◌≡◌, List, [], ◌∷◌, ℕ, ◌+◌, ◌≤◌, ◌<◌, max, get_or}
use Rattle.zero_skew.specs.Plane.{Sinks}
use Rattle.zero_skew.specs.Box.{apart}
use Rattle.subsets.specs.Subsets.{sinks_in_subset}

abbrev pub entry : List (List ℕ) → ℕ → ℕ → ℕ
entry q i j = get_or (get_or q i []) j 0

-- "The exact search keeps distances between sinks in a square of twelve rows by twelve; rows and columns from n on hold 0." With delays (02, Q-7) sinks are apart by their distance and both delays; on the diagonal a sink from itself by twice its own.
pub record Square (s : Sinks) (q : List (List ℕ)) : Type 0 where
  pub near : (i j : ℕ) → i < s.n → j < s.n → entry q i j ≡ apart s i j
  pub no_row : (i j : ℕ) → s.n ≤ i → entry q i j ≡ 0
  pub no_column : (i j : ℕ) → s.n ≤ j → entry q i j ≡ 0

-- for the code alone: a row holds how far sink i is apart from the first k sinks, and then 0
pub record RowOf (s : Sinks) (i k : ℕ) (row : List ℕ) : Type 0 where
  pub near : (j : ℕ) → j < k → get_or row j 0 ≡ apart s i j
  pub none : (j : ℕ) → k ≤ j → get_or row j 0 ≡ 0

-- for the code alone: the greatest distance to one of l, from a row of the square
unfoldable pub farthest_of : List ℕ → List ℕ → ℕ
farthest_of row [] = 0
farthest_of row (b ∷ l) = max (get_or row b 0) (farthest_of row l)

-- for the code alone: the greatest distance of two of l, or of one from itself
unfoldable pub widest_of : List (List ℕ) → List ℕ → ℕ
widest_of q [] = 0
widest_of q (a ∷ l) = max (farthest_of (get_or q a []) (a ∷ l)) (widest_of q l)

-- for the code alone: the greatest distance of one of l to sink j, from a column of the square
unfoldable pub farthest_to : List (List ℕ) → ℕ → List ℕ → ℕ
farthest_to q j [] = 0
farthest_to q j (i ∷ l) = max (entry q i j) (farthest_to q j l)

-- for the code alone: the diameters that a list holds
abbrev pub held : List ℕ → ℕ → ℕ
held ds m = get_or ds m 0

-- for the code alone: the greatest distance of two sinks of a subset
unfoldable pub widest : List (List ℕ) → ℕ → ℕ
widest q m = widest_of q (sinks_in_subset 32 m)

-- for the code alone: the greatest distance to sink j of a sink of a subset, or of j itself
unfoldable pub farthest_in : List (List ℕ) → ℕ → ℕ → ℕ
farthest_in q j m = max (entry q j j) (farthest_to q j (sinks_in_subset 32 m))

-- for the code alone: k entries from a place on are changed to what f says, and no other
pub record Changed (at k : ℕ) (f : ℕ → ℕ) (ds ds' : List ℕ) : Type 0 where
  pub here : (r : ℕ) → r < k → held ds' (at + r) ≡ f r
  pub before : (m : ℕ) → m < at → held ds' m ≡ held ds m
  pub after : (m : ℕ) → at + k ≤ m → held ds' m ≡ held ds m

-- for the code alone: the first k of ds are the greatest distances in the subsets below k
abbrev pub Widths : List (List ℕ) → ℕ → List ℕ → Type 0
Widths q k ds = (m : ℕ) → m < k → held ds m ≡ widest q m
