-- Document 01, "Embedding a joining order": the tree that is made of a joining order, and its total.
use Rattle.std.specs.Prelude.{◌≡◌, ◌⊎◌, List, [], ◌∷◌, ◌++◌, ℕ, ◌+◌, ◌-◌, ◌*◌, ◌≤◌, ◌<◌, ℤ}
use Rattle.lists.specs.Grow.{sum_to}
use Rattle.zero_skew.specs.Plane.{Sinks, u, v, quarters}
use Rattle.zero_skew.specs.Box.{diameter}
use Rattle.zero_skew.specs.Segment.{from, placed}
use Rattle.zero_skew.specs.Tree.{Tree, leaf, join, count}

-- a joining order: a sink, or a pair that is joined
pub data Order : Type 0 where
  one : (sink : ℕ) → Order
  both : Order → Order → Order

unfoldable pub sinks_of : Order → List ℕ
sinks_of (one i) = i ∷ []
sinks_of (both l r) = sinks_of l ++ sinks_of r

-- "every node but the root is named exactly once": an order that joins every sink once
pub record Over (s : Sinks) (o : Order) : Type 0 where
  pub once : (i : ℕ) → i < s.n → count i (sinks_of o) ≡ 1
  pub no_other : (i : ℕ) → s.n ≤ i → count i (sinks_of o) ≡ 0

-- The tree over an order, its top at U and V'. "Any other node: on each axis the value in the node's range nearest to its parent's value.
-- Wire from a node to its parent: d(parent) - d(node)": so many half units, each of two quarters.
unfoldable pub embed : Sinks → Order → ℤ → ℤ → Tree
embed s (one i) U V' = leaf i (quarters U V')
embed s (both l r) U V' =
    join (quarters U V')
    (2 * (diameter s (sinks_of l ++ sinks_of r) - diameter s (sinks_of l))) (embed s l (placed s (u s) (sinks_of l) U) (placed s (v s) (sinks_of l) V'))
    (2 * (diameter s (sinks_of l ++ sinks_of r) - diameter s (sinks_of r))) (embed s r (placed s (u s) (sinks_of r) U) (placed s (v s) (sinks_of r) V'))

-- "Root: least U, then least V, of its segment."
abbrev pub embedded : Sinks → Order → Tree
embedded s o = embed s o (from s (u s) (sinks_of o)) (from s (v s) (sinks_of o))

-- "the sum of d over all joins"
unfoldable pub sums : Sinks → Order → ℕ
sums s (one i) = 0
sums s (both l r) = diameter s (sinks_of l ++ sinks_of r) + sums s l + sums s r

-- "Total in half units: the sum of d over all joins, plus d(root)"; with delays (02, Q-7) "minus twice the sum of w"
unfoldable pub halves : Sinks → Order → ℕ
halves s o = sums s o + diameter s (sinks_of o) - 2 * sum_to s.wait s.n

-- the joining order of a tree
unfoldable pub order : Tree → Order
order (leaf i p) = one i
order (join p a l b r) = both (order l) (order r)

-- two orders that join the same sets: the two children of a join may change places
abbrev pub Alike : Order → Order → Type 0
Alike (one i) (one j) = i ≡ j
Alike (one i) (both l r) = ⊥
Alike (both l r) (one j) = ⊥
Alike (both l r) (both l' r') = (Alike l l' × Alike r r') ⊎ (Alike l r' × Alike r l')
