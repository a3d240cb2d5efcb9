-- For the code alone: one join after i of them, of n sinks.
use Rattle.std.specs.Prelude.{◌≡◌, List, ℕ, ◌+◌, ◌-◌, ◌*◌, ◌≤◌, ◌<◌, length, take, set}
use Rattle.measures.specs.Boxes.{hull_of}
use Rattle.partners.specs.declared.pair.Pair.{Pair}
use Rattle.partners.specs.Closest.{best, after}
use Rattle.measures.specs.declared.boxes.Box.{Box}
use Rattle.orders.specs.Table.{box_at}
use Rattle.partners.specs.Boxes.{Upright, reach}
use Rattle.partners.specs.Live.{Packed}
use Rattle.partners.specs.declared.rows.Rows.{Rows}
use Rattle.partners.specs.Rows.{row_at, Right}

-- the lists hold what the join needs, and have room for what it makes
pub record Open (n i : ℕ) (bs : List Box) (live : List ℕ) (rows : Rows) (js : List ℕ) : Type 0 where
  pub packed : Packed n i live
  pub right : Right bs live (n + i) (row_at rows)
  pub upright : Upright (n + i) bs
  pub turn : i + 1 < n
  pub few : n ≤ 512
  pub box-room : n + i < length bs
  pub room : 2 * i + 1 < length js

-- the pair p is joined to node m: its hull is the next box, and the live nodes are those after the join
pub record Made (m : ℕ) (p : Pair) (bs bs' : List Box) (live live' : List ℕ) : Type 0 where
  pub puts : bs' ≡ set bs m (hull_of (box_at bs p.low) (box_at bs p.high))
  pub packs : take (length live - 1) live' ≡ after p m live

-- the best pair is joined and written, and what is kept beside the live nodes after the join is right
pub record Round (n i : ℕ) (bs bs' : List Box) (live live' : List ℕ) (rows' : Rows) (js js' : List ℕ) : Type 0 where
  pub made : Made (n + i) (best (reach bs) live) bs bs' live live'
  pub right : Right bs' (after (best (reach bs) live) (n + i) live) (n + i + 1) (row_at rows')
  pub writes : js' ≡ set (set js (2 * i) (best (reach bs) live).low) (2 * i + 1) (best (reach bs) live).high
