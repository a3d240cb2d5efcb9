-- For the code alone: what its arrays hold. Their numbers are counted from a far corner; `Covers` ties them to document 01's.
use Rattle.std.specs.Prelude.{◌≡◌, cond, List, ℕ, ◌+◌, ◌-◌, ◌*◌, ◌/◌, ◌≤◌, ◌<◌, ltb, length, get_or, set}
use Rattle.lists.specs.Grow.{sum_to}
use Rattle.zero_skew.specs.Plane.{Sinks}
use Rattle.measures.specs.Range.{Brief}
use Rattle.measures.specs.Boxes.{hull_of, diam_of, Fair}
use Rattle.measures.specs.Covers.{Covers}
use Rattle.measures.specs.declared.boxes.Box.{Box}
use Rattle.orders.specs.declared.nodes.Nodes.{Nodes}
use Rattle.orders.specs.Joins.{left, right}
use Rattle.orders.specs.Nodes.{below, parent}
use Rattle.orders.specs.Sound.{Ordered}
use Rattle.orders.specs.Table.{box_at}

-- the boxes of the first m nodes
abbrev pub Boxes : Sinks → List ℕ → ℕ → List Box → Type 0
Boxes s js m bs = (k : ℕ) → k < m → Covers s (below s.n js k) (box_at bs k)

abbrev pub Fairs : ℕ → List Box → Type 0
Fairs m bs = (k : ℕ) → k < m → Fair (box_at bs k)

abbrev pub Diameters : ℕ → List Box → List ℕ → Type 0
Diameters m bs ds = (k : ℕ) → k < m → get_or ds k 0 ≡ diam_of (box_at bs k)

abbrev pub Parents : ℕ → List ℕ → List ℕ → Type 0
Parents n js ps = (k : ℕ) → k < 2 * n - 2 → get_or ps k 0 ≡ parent n js k

-- parents have higher numbers
abbrev pub Rising : ℕ → List ℕ → Type 0
Rising n ps = (k : ℕ) → k < 2 * n - 2 → (k < get_or ps k 0) × (get_or ps k 0 ≤ 2 * n - 2)

-- room for the nodes of n sinks
pub record NodeRoom (n : ℕ) (bs : List Box) (ds ps : List ℕ) : Type 0 where
  pub boxes : 2 * n - 1 ≤ length bs
  pub diameters : 2 * n - 1 ≤ length ds
  pub parents : 2 * n - 1 ≤ length ps

-- delays that the code's numbers hold, and room for twice each
pub record OwnRoom (delays ds : List ℕ) : Type 0 where
  pub few : length delays ≤ 512
  pub brief : (i : ℕ) → Brief (get_or delays i 0)
  pub room : length delays ≤ length ds

-- the first m sinks' own diameters are put, and their sum
pub record PutsOwn (delays : List ℕ) (m sum : ℕ) (ds' : List ℕ) : Type 0 where
  pub own : (k : ℕ) → k < m → get_or ds' k 0 ≡ 2 * get_or delays k 0
  pub sums : sum ≡ 2 * sum_to (λ k. get_or delays k 0) m
  pub low : sum ≤ 12000000 * m

-- the nodes of n sinks and of the first i joins are in the arrays
pub record Up (n : ℕ) (js : List ℕ) (i : ℕ) (bs : List Box) (ds ps : List ℕ) : Type 0 where
  pub room : NodeRoom n bs ds ps
  pub fair : Fairs (n + i) bs
  pub sized : Diameters (n + i) bs ds
  pub hulls : (j : ℕ) → j < i → box_at bs (n + j) ≡ hull_of (box_at bs (left js j)) (box_at bs (right js j))
  pub named : (j : ℕ) → j < 2 * i → get_or ps (get_or js j 0) 0 ≡ n + j / 2

-- join i is put: its diameter, and the arrays before and after
pub record PutsJoin (n : ℕ) (js : List ℕ) (i : ℕ) (bs : List Box) (ds : List ℕ) (d : ℕ) (bs' : List Box) (ds' ps' : List ℕ) : Type 0 where
  pub up : Up n js (i + 1) bs' ds' ps'
  pub before : (k : ℕ) → k < n + i → box_at bs' k ≡ box_at bs k
  pub adds : ds' ≡ set ds (n + i) d

-- the first i joins are put: the boxes of the sinks before, the sum of the diameters, and the arrays after
pub record PutsJoins (n : ℕ) (js : List ℕ) (i : ℕ) (bs : List Box) (sum : ℕ) (bs' : List Box) (ds' ps' : List ℕ) : Type 0 where
  pub up : Up n js i bs' ds' ps'
  pub sinks : (k : ℕ) → k < n → box_at bs' k ≡ box_at bs k
  pub sums : sum ≡ sum_to (λ j. get_or ds' (n + j) 0) i
  pub low : sum ≤ 28000000 * i

-- the arrays of all nodes
pub record AllNodes (s : Sinks) (js : List ℕ) (bs : List Box) (ds ps : List ℕ) : Type 0 where
  pub ordered : Ordered s.n js
  pub room : NodeRoom s.n bs ds ps
  pub boxed : Boxes s js (2 * s.n - 1) bs
  pub sized : Diameters (2 * s.n - 1) bs ds
  pub named : Parents s.n js ps

-- no parent has a smaller diameter
abbrev pub Longer : ℕ → List ℕ → List ℕ → Type 0
Longer n ds ps = (k : ℕ) → k < 2 * n - 2 → get_or ds k 0 ≤ get_or ds (get_or ps k 0) 0

-- what the wires are written from: N nodes in each array, room for those of n sinks
pub record Climbs {N : ℕ} (n : ℕ) (ns : Nodes N) : Type 0 where
  pub some : 0 < n
  pub few : n ≤ 512
  pub room : 2 * n - 1 ≤ N
  pub rising : Rising n ns.parents
  pub longer : Longer n ns.diameters ns.parents

abbrev pub wire_in : {N : ℕ} → ℕ → Nodes N → ℕ → ℕ
wire_in n ns k = cond (ltb k (2 * n - 2)) (get_or ns.diameters (get_or ns.parents k 0) 0 - get_or ns.diameters k 0) 0
