-- For the code alone: the places that the buffers of U and V hold.
use Rattle.std.specs.Prelude.{◌≡◌, List, ℕ, ◌-◌, ◌*◌, ◌≤◌, ◌<◌, ℤ, pos, length, get_or, set}
use Rattle.measures.specs.Boxes.{sink_box, diam_of, Fair}
use Rattle.plane.specs.Sinks.{Placed}
use Rattle.measures.specs.Measures.{lowered, raised}
use Rattle.measures.specs.Spots.{root_of, nearest_of}
use Rattle.measures.specs.declared.segment.Spot.{Spot}
use Rattle.orders.specs.declared.nodes.Nodes.{Nodes}
use Rattle.orders.specs.Table.{box_at}
use Rattle.orders.specs.Arrays.{Fairs, Diameters, Rising}

-- what the places are found from, parents first
pub record Sized {N : ℕ} (n : ℕ) (ns : Nodes N) : Type 0 where
  pub some : 0 < n
  pub few : n ≤ 512
  pub room : 2 * n - 1 ≤ N
  pub fits : N < 4294967296
  pub fair : Fairs (2 * n - 1) ns.hulls
  pub sized : Diameters (2 * n - 1) ns.hulls ns.diameters
  pub rising : Rising n ns.parents

-- the sinks have places that the code's numbers hold
abbrev pub AllPlaced : List ℤ → List ℤ → Type 0
AllPlaced xs ys = (k : ℕ) → k < length xs → Placed xs ys k

-- places that fit a signed number
pub record Low (p : Spot) : Type 0 where
  pub low_u : p.u.0 ≤ 184000000
  pub low_v : p.v.0 ≤ 184000000

-- the place that two buffers hold for node k
abbrev pub spot_at : List ℤ → List ℤ → ℕ → Spot
spot_at us vs k = record { u = raised (get_or us k (pos 0)); v = raised (get_or vs k (pos 0)) }

-- and that it is p
pub record SpotHeld (us vs : List ℤ) (k : ℕ) (p : Spot) : Type 0 where
  pub held_u : get_or us k (pos 0) ≡ lowered p.u.0
  pub held_v : get_or vs k (pos 0) ≡ lowered p.v.0
  pub low : Low p

-- both buffers have an entry for node k
abbrev pub Has : List ℤ → List ℤ → ℕ → Type 0
Has us vs k = (k < length us) × (k < length vs)

-- node k's box and diameter can be read, and its place can be written
pub record Placeable {N : ℕ} (k : ℕ) (ns : Nodes N) (us vs : List ℤ) : Type 0 where
  pub inside : k < N
  pub fits : N < 4294967296
  pub has : Has us vs k
  pub fair : Fair (box_at ns.hulls k)
  pub size : get_or ns.diameters k 0 ≡ diam_of (box_at ns.hulls k)

-- place p is written for node k
pub record PutsSpot (k : ℕ) (p : Spot) (us vs us' vs' : List ℤ) : Type 0 where
  pub writes_u : us' ≡ set us k (lowered p.u.0)
  pub writes_v : vs' ≡ set vs k (lowered p.v.0)

-- the places of the root and of the nodes from m on
pub record Spots {N : ℕ} (n : ℕ) (ns : Nodes N) (m : ℕ) (us vs : List ℤ) : Type 0 where
  pub root : SpotHeld us vs (2 * n - 2) (root_of (box_at ns.hulls (2 * n - 2)))
  pub next : (k : ℕ) → m ≤ k → k < 2 * n - 2 → SpotHeld us vs k (nearest_of (box_at ns.hulls k) (spot_at us vs (get_or ns.parents k 0)))

-- nothing is written from entry m on
abbrev pub Kept : ℕ → List ℤ → List ℤ → Type 0
Kept m old new = (k : ℕ) → m ≤ k → get_or new k (pos 0) ≡ get_or old k (pos 0)

-- the places of the joins are written: the buffers before and after
pub record PutsDown {N : ℕ} (n : ℕ) (ns : Nodes N) (m : ℕ) (us vs us' vs' : List ℤ) : Type 0 where
  pub spots : Spots n ns m us' vs'
  pub kept_u : Kept (2 * n - 1) us us'
  pub kept_v : Kept (2 * n - 1) vs vs'

-- the places of the first m sinks are written: each is its own
pub record PutsSinks (xs ys : List ℤ) (m : ℕ) (us vs us' vs' : List ℤ) : Type 0 where
  pub own : (k : ℕ) → k < m → SpotHeld us' vs' k (root_of (sink_box (get_or xs k (pos 0)) (get_or ys k (pos 0)) 0))
  pub kept_u : Kept m us us'
  pub kept_v : Kept m vs vs'
