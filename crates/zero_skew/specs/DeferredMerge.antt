-- Document 002, section I, figure 3: deferred-merge embedding (DME), under linear delay: the delay of a wire is its length. Lengths count half grid units.
use Rattle.std.specs.Prelude.{◌≡◌, List, ◌++◌, ℕ, ◌+◌, ◌-◌, ◌*◌, ◌≤◌, ℤ, pos, ◌+ℤ◌, ◌-ℤ◌, ◌*ℤ◌}
use Rattle.zero_skew.specs.Plane.{Place, Sinks, dist, u, v, twice}
use Rattle.zero_skew.specs.Box.{diameter}
use Rattle.zero_skew.specs.Segment.{from, upto}
use Rattle.zero_skew.specs.Tree.{Tree, leaf, join, top}
use Rattle.zero_skew.specs.Order.{Order, one, both, sinks_of}
use Rattle.zero_skew.specs.Region.{Range, Region, Inside, finer, spot, trr, ◌∩◌, distance}

-- "Tree of merging segments TS containing ms(v) for each node v in G, and edge length |e_v|": the topology G, and at a join the lengths |e_a| and |e_b| of its two edges.
pub data Segments : Type 0 where
  sink : (number : ℕ) → Segments
  merge : (eᵃ : ℕ) → Segments → (eᵇ : ℕ) → Segments → Segments

unfoldable pub topology : Segments → Order
topology (sink i) = one i
topology (merge e a f b) = both (topology a) (topology b)

-- "If v is a sink s_i, then ms(v) = {s_i}. If v is an internal node, then ms(v) is .. all points within distance |e_a| of ms(a) and within distance |e_b| of ms(b)."
unfoldable pub ms : Sinks → Segments → Region
ms s (sink i) = spot (twice (u s i)) (twice (v s i))
ms s (merge e a f b) = trr e (ms s a) ∩ trr f (ms s b)

-- the delay from the top node to its leaves (by way of the first child: `balanced` has them equal), a sink's own delay included
unfoldable pub path : Sinks → Segments → ℕ
path s (sink i) = 2 * s.wait i
path s (merge e a f b) = e + path s a

-- Lengths e and f, counted in units of 1/k half grid unit, "which allow TS_a and TS_b to be merged .. while preserving zero skew", where A and B are the segments and p and q the delays below:
-- the delays are equal, and the two wires together reach from A to B.
pub record Merges (k : ℕ) (A : Region) (p : ℕ) (B : Region) (q : ℕ) (e f : ℕ) : Type 0 where
  pub balanced : e + k * p ≡ f + k * q
  pub reached : k * distance A B ≤ e + f

-- "Calculate_Edge_Lengths .. finds the values |e_a| and |e_b| such that |e_a| + |e_b| is minimized and zero-skew is achieved", among lengths of whatever fineness k
pub record EdgeLengths (A : Region) (p : ℕ) (B : Region) (q : ℕ) (e f : ℕ) : Type 0 where
  pub merges : Merges 1 A p B q e f
  pub least : (k x y : ℕ) → Merges k A p B q x y → k * (e + f) ≤ x + y

-- the bottom-up phase, Build_Tree_of_Segments: "for each node v in G (bottom-up order) .. Calculate_Edge_Lengths"
abbrev pub BottomUp : Sinks → Segments → Type 0
BottomUp s (sink i) = Unit {0}
BottomUp s (merge e a f b) = BottomUp s a × BottomUp s b × EdgeLengths (ms s a) (path s a) (ms s b) (path s b) e f

-- the place p, counted in units of 1/k grid unit, is in a region: its doubled tilted coordinates are, where the region is counted as finely
abbrev pub At : ℕ → Region → Place → Type 0
At k a p = Inside (finer k a) (pos 2 *ℤ (p.x +ℤ p.y)) (pos 2 *ℤ (p.x -ℤ p.y))

-- The top-down phase, Find_Exact_Placements: "if v is the root node, then DME selects any point in ms(v) to be l(v); or if v is an internal node other than the root, .. any point in ms(v)
-- that is at distance |e_v| or less from the placement of v's parent". Its wire has the length |e_v|. Places and wires of the tree count 1/k grid unit, for any k.
abbrev pub TopDown : Sinks → ℕ → Segments → Tree → Type 0
TopDown s k (sink i) (leaf j p) = (j ≡ i) × At k (ms s (sink i)) p
TopDown s k (sink i) (join p x l y r) = ⊥
TopDown s k (merge e a f b) (leaf j p) = ⊥
TopDown s k (merge e a f b) (join p x l y r) =
    At k (ms s (merge e a f b)) p × (2 * x ≡ k * e) × (2 * y ≡ k * f) × (2 * dist p (top l) ≤ k * e) × (2 * dist p (top r) ≤ k * f) × TopDown s k a l × TopDown s k b r

-- "Given sink set S and topology G, DME embeds internal nodes of G via: i) a bottom-up phase ..; and ii) a top-down embedding phase": the tree t, at fineness k, is an outcome.
pub record DME (s : Sinks) (k : ℕ) (o : Order) (t : Tree) : Type 0 where
  pub segments : Segments
  pub over : topology segments ≡ o
  pub bottom_up : BottomUp s segments
  pub top_down : TopDown s k segments t

-- Document 01's rule, to compare: "Segment of a node: U from 2·(greatest u) - d to 2·(least u) + d, and V likewise from v."
abbrev pub range : Sinks → (ℕ → ℤ) → List ℕ → Range
range s c l = record { lo = from s c l; hi = upto s c l }

abbrev pub segment : Sinks → List ℕ → Region
segment s l = record { along_u = range s (u s) l; along_v = range s (v s) l }

-- "Wire from a node to its parent: d(parent) - d(node)."
unfoldable pub wired : Sinks → Order → Segments
wired s (one i) = sink i
wired s (both l r) =
    merge
    (diameter s (sinks_of l ++ sinks_of r) - diameter s (sinks_of l)) (wired s l)
    (diameter s (sinks_of l ++ sinks_of r) - diameter s (sinks_of r)) (wired s r)
