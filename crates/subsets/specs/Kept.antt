-- Document 01, "The exact search": the kept splits as a joining order, and the order's joins as pairs. d is the diameter of each subset.
use Rattle.std.specs.Prelude.{Bool, cond, List, [], ◌∷◌, ◌++◌, ℕ, zero, suc, ◌+◌, ◌-◌, ◌^◌, eqb, ltb, get_or}
use Rattle.std.specs.Int.Count.{ones}
use Rattle.zero_skew.specs.Order.{Order, one, both}
use Rattle.subsets.specs.Subsets.{splits, lowest}
use Rattle.subsets.specs.Table.{cost_of}

-- the first of a list that a test takes, or `other`
unfoldable pub first_or : (ℕ → Bool) → ℕ → List ℕ → ℕ
first_or p other [] = other
first_or p other (x ∷ l) = cond (p x) x (first_or p other l)

-- the split of m into a and the rest comes to the entry of m
abbrev pub meets : (ℕ → ℕ) → List ℕ → ℕ → ℕ → Bool
meets d t m a = eqb (cost_of d t m a) (get_or t m 0)

-- "The first least sum is kept": the part with the lowest sink, in the first split that comes to the entry of m. (Where none does, as in no table of a finished search, it is the lowest
-- sink alone.)
unfoldable pub kept_part : (ℕ → ℕ) → List ℕ → ℕ → ℕ
kept_part d t m = first_or (meets d t m) (2 ^ lowest m) (splits m)

-- the kept splits as a tree; m turns are enough for m
unfoldable pub kept_in : (ℕ → ℕ) → List ℕ → ℕ → ℕ → Order
kept_in d t zero m = one (lowest m)
kept_in d t (suc turns) m =
    cond (ltb (ones m) 2) (one (lowest m)) (both (kept_in d t turns (kept_part d t m)) (kept_in d t turns (m - kept_part d t m)))

abbrev pub kept_order : (ℕ → ℕ) → List ℕ → ℕ → Order
kept_order d t m = kept_in d t m m

-- how many joins an order has
unfoldable pub join_count : Order → ℕ
join_count (one i) = 0
join_count (both l r) = join_count l + join_count r + 1

-- the node at the top of an order of n sinks, where `made` joins are made once it is joined: a sink's own number, or that of the last join
unfoldable pub node_in : ℕ → Order → ℕ → ℕ
node_in n (one i) made = i
node_in n (both l r) made = n + made - 1

-- "joins are numbered part with the lowest sink first, then the other part, then the join itself, and the pair is written in that order"; `made` joins are made before
unfoldable pub pairs_of : ℕ → Order → ℕ → List ℕ
pairs_of n (one i) made = []
pairs_of n (both l r) made =
    pairs_of n l made
    ++ (pairs_of n r (made + join_count l) ++ (node_in n l (made + join_count l) ∷ node_in n r (made + join_count l + join_count r) ∷ []))

-- for the code alone: the node of a subset of n sinks, where `made` joins are made once it is joined
unfoldable pub node_of : ℕ → ℕ → ℕ → ℕ
node_of n m made = cond (ltb (ones m) 2) (lowest m) (n + made - 1)
