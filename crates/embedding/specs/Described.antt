-- The tree that lists of U, V and wires describe, and what it is worth where `embed` wrote them.
use Rattle.std.specs.Prelude.{◌≡◌, cond, ℕ, ◌-◌, ◌*◌, ◌≤◌, ltb, ℤ, pos, length, get_or}
use mathlib.Core.List.{List, Memᴰ}
use Rattle.lists.specs.Grow.{grow, sum_to}
use Rattle.zero_skew.specs.Plane.{Place, Sinks, quarters}
use Rattle.zero_skew.specs.Tree.{Tree, leaf, join, wire, arrivals, ZeroSkew}
use Rattle.zero_skew.specs.Order.{order, Alike}
use Rattle.zero_skew.specs.DeferredMerge.{DME}
use Rattle.orders.specs.Joins.{left, right}
use Rattle.orders.specs.Nodes.{node, d}

-- "Plane position in quarters of a grid unit"
abbrev pub place_in : List ℤ → List ℤ → ℕ → Place
place_in us vs k = quarters (get_or us k (pos 0)) (get_or vs k (pos 0))

-- the node after the nodes ts: a sink, or the join that its pair names. A wire of so many half units is twice as many quarters
abbrev pub next_tree : ℕ → List ℕ → List ℤ → List ℤ → List ℕ → List Tree → Tree
next_tree n js us vs ws ts =
    cond (ltb (length ts) n)
    (leaf (length ts) (place_in us vs (length ts)))
    (join (place_in us vs (length ts))
    (2 * get_or ws (left js (length ts - n)) 0) (get_or ts (left js (length ts - n)) (leaf 0 (place_in us vs 0)))
    (2 * get_or ws (right js (length ts - n)) 0) (get_or ts (right js (length ts - n)) (leaf 0 (place_in us vs 0))))

unfoldable pub tree_at : ℕ → List ℕ → List ℤ → List ℤ → List ℕ → ℕ → Tree
tree_at n js us vs ws k = get_or (grow (next_tree n js us vs ws) (2 * n - 1)) k (leaf 0 (place_in us vs 0))

-- the tree of the last node
abbrev pub described : ℕ → List ℕ → List ℤ → List ℤ → List ℕ → Tree
described n js us vs ws = tree_at n js us vs ws (2 * n - 2)

-- What an accepted call is worth:
pub record Level (s : Sinks) (js : List ℕ) (us vs : List ℤ) (ws : List ℕ) (total : ℕ) : Type 0 where
  -- a zero-skew tree over the sinks, its places and lengths in quarters of a grid unit
  pub zero_skew : ZeroSkew s 4 (described s.n js us vs ws)
  -- "Every path from root to sink is d(root) half units"
  pub paths : (p : ℕ) → Memᴰ p (arrivals s 4 (described s.n js us vs ws)) → p ≡ 2 * d s js (2 * s.n - 2)
  -- joined in the order given
  pub joined : order (described s.n js us vs ws) ≡ node s.n js (2 * s.n - 2)
  -- its wire is the total, and so is the sum of the wires
  pub long : wire (described s.n js us vs ws) ≡ 2 * total
  pub sums : sum_to (λ k. get_or ws k 0) (2 * s.n - 1) ≡ total
  -- no zero-skew tree that joins the same sets, at whatever fineness k, has less wire
  pub least : (k : ℕ) (t : Tree) → ZeroSkew s k t → Alike (order t) (node s.n js (2 * s.n - 2)) → k * total ≤ 2 * wire t
  -- it is an outcome of deferred-merge embedding
  pub deferred : DME s 4 (node s.n js (2 * s.n - 2)) (described s.n js us vs ws)
