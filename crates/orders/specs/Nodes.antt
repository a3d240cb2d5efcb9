-- Document 01, "Embedding a joining order": nodes, parents, places, wires and the total, over the sinks s and the pairs js.
use Rattle.std.specs.Prelude.{cond, List, ℕ, zero, suc, ◌+◌, ◌-◌, ◌*◌, ◌/◌, ltb, eqb, ℤ, pos, length, get_or}
use Rattle.lists.specs.First.{first}
use Rattle.lists.specs.Grow.{grow, tab, sum_to}
use Rattle.zero_skew.specs.Plane.{Sinks, u, v}
use Rattle.zero_skew.specs.Box.{diameter}
use Rattle.zero_skew.specs.Segment.{from, placed}
use Rattle.zero_skew.specs.Order.{Order, one, both, sinks_of}
use Rattle.orders.specs.Joins.{left, right}

-- "Sinks are 0 to n-1 ..; pair i makes node n+i": the node after the nodes os is a sink, or joins the two that its pair names
abbrev pub next_node : ℕ → List ℕ → List Order → Order
next_node n js os =
    cond (ltb (length os) n)
    (one (length os))
    (both (get_or os (left js (length os - n)) (one 0)) (get_or os (right js (length os - n)) (one 0)))

unfoldable pub node : ℕ → List ℕ → ℕ → Order
node n js k = get_or (grow (next_node n js) (2 * n - 1)) k (one 0)

-- the sinks below node k
abbrev pub below : ℕ → List ℕ → ℕ → List ℕ
below n js k = sinks_of (node n js k)

-- d of node k
abbrev pub d : Sinks → List ℕ → ℕ → ℕ
d s js k = diameter s (below s.n js k)

-- the node whose pair names node k
unfoldable pub parent : ℕ → List ℕ → ℕ → ℕ
parent n js k = n + first (λ j. eqb (get_or js j 0) k) 0 (length js) / 2

-- "Root: least U, then least V, of its segment. Any other node: on each axis the value in the node's range nearest to its parent's value." Along the axis c; the first number bounds the climb to the root.
unfoldable pub climb : ℕ → Sinks → (ℕ → ℤ) → List ℕ → ℕ → ℤ
climb zero s c js k = pos 0
climb (suc m) s c js k =
    cond (eqb k (2 * s.n - 2))
    (from s c (below s.n js k))
    (placed s c (below s.n js k) (climb m s c js (parent s.n js k)))

-- parents have higher numbers, so a climb has fewer steps than there are nodes
abbrev pub value : Sinks → (ℕ → ℤ) → List ℕ → ℕ → ℤ
value s c js k = climb (2 * s.n - 1) s c js k

-- "Wire from a node to its parent: d(parent) - d(node)"; "the root's is the length 0"
abbrev pub wire : Sinks → List ℕ → ℕ → ℕ
wire s js k = cond (ltb k (2 * s.n - 2)) (d s js (parent s.n js k) - d s js k) 0

-- U, V and the wire to the parent, by node
abbrev pub places_u : Sinks → List ℕ → List ℤ
places_u s js = tab (value s (u s) js) (2 * s.n - 1)

abbrev pub places_v : Sinks → List ℕ → List ℤ
places_v s js = tab (value s (v s) js) (2 * s.n - 1)

abbrev pub wires : Sinks → List ℕ → List ℕ
wires s js = tab (wire s js) (2 * s.n - 1)

-- "the total is the sum of d over joins plus d(root) minus twice the sum of w" (the difference is never cut short at 0: proofs/Theorem4, `not_cut`)
abbrev pub total : Sinks → List ℕ → ℕ
total s js = sum_to (λ i. d s js (s.n + i)) (s.n - 1) + d s js (2 * s.n - 2) - 2 * sum_to s.wait s.n
