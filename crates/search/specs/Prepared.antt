-- For the code alone: what the checks of the search leave, and what is done then.
use Rattle.std.specs.Prelude.{◌≡◌, List, ℕ, ◌-◌, ◌*◌, ◌^◌, ◌≤◌, ◌<◌, min, ℤ, length, take}
use Rattle.lists.specs.Grow.{front}
use Rattle.plane.specs.Sinks.{sinks_at, Ranged}
use Rattle.plane.specs.declared.sinks.Sinks as lent
use Rattle.embedding.specs.declared.layout.Layout.{Layout}
use Rattle.orders.specs.Nodes.{places_u, places_v, wires}
use Rattle.search.specs.declared.search.Found.{Found}
use Rattle.subsets.specs.Subsets.{diam}
use Rattle.subsets.specs.Best.{step_count}
use Rattle.subsets.specs.Table.{table_after}
use Rattle.subsets.specs.Square.{held}
use Rattle.search.specs.Searching.{table_of, joins_found, found}

-- one to twelve sinks that were checked, and room for their table and their joins
pub record Prepared (xs ys : List ℤ) (delays table js : List ℕ) : Type 0 where
  pub ranged : Ranged xs ys delays
  pub some : 0 < length xs
  pub few : length xs ≤ 12
  pub room_table : 2 ^ length xs ≤ length table
  pub room_js : 2 * (length xs - 1) ≤ length js

-- and room for their nodes
pub record Provided (xs ys : List ℤ) (delays table js : List ℕ) (us vs : List ℤ) (ws : List ℕ) : Type 0 where
  pub prepared : Prepared xs ys delays table js
  pub room_u : 2 * length xs - 1 ≤ length us
  pub room_v : 2 * length xs - 1 ≤ length vs
  pub room_w : 2 * length xs - 1 ≤ length ws

-- the diameters of the sinks' subsets, and their table after the steps of the budget
pub record Tabled (xs ys : List ℤ) (delays : List ℕ) (budget : ℕ) (ds table js : List ℕ) : Type 0 where
  pub prepared : Prepared xs ys delays table js
  pub diameters : (m : ℕ) → m < 2 ^ length xs → held ds m ≡ diam (sinks_at xs ys delays) m
  pub after : take (2 ^ length xs) table ≡ table_after (held ds) (length xs) budget

-- the table and the joins are written
pub record Joins (xs ys : List ℤ) (delays : List ℕ) (budget : ℕ) (table js : List ℕ) (steps : ℕ) (table' js' : List ℕ) : Type 0 where
  pub counts : steps ≡ min budget (step_count (length xs))
  pub writes_table : table' ≡ front (table_of (sinks_at xs ys delays) budget) table
  pub writes_js : js' ≡ front (joins_found (sinks_at xs ys delays) budget) js

-- and so are the places and the wires
pub record Finds (xs ys : List ℤ) (delays : List ℕ) (budget : ℕ) (table js : List ℕ) (us vs : List ℤ) (ws : List ℕ) (r : Found) (table' js' : List ℕ) (us' vs' : List ℤ) (ws' : List ℕ) : Type 0 where
  pub finds : r ≡ found (sinks_at xs ys delays) budget
  pub writes_table : table' ≡ front (table_of (sinks_at xs ys delays) budget) table
  pub writes_js : js' ≡ front (joins_found (sinks_at xs ys delays) budget) js
  pub writes_u : us' ≡ front (places_u (sinks_at xs ys delays) (joins_found (sinks_at xs ys delays) budget)) us
  pub writes_v : vs' ≡ front (places_v (sinks_at xs ys delays) (joins_found (sinks_at xs ys delays) budget)) vs
  pub writes_w : ws' ≡ front (wires (sinks_at xs ys delays) (joins_found (sinks_at xs ys delays) budget)) ws

-- the same of what a caller lends
abbrev pub PreparedFor : lent.Sinks → List ℕ → List ℕ → Type 0
PreparedFor s table js = Prepared s.xs.now s.ys.now s.delays.now table js

abbrev pub ProvidedFor : lent.Sinks → List ℕ → List ℕ → Layout → Type 0
ProvidedFor s table js l = Provided s.xs.now s.ys.now s.delays.now table js l.us.now l.vs.now l.ws.now

abbrev pub FindsIn : lent.Sinks → ℕ → List ℕ → List ℕ → Layout → Found → List ℕ → List ℕ → Layout → Type 0
FindsIn s budget table js l r table' js' l' = Finds s.xs.now s.ys.now s.delays.now budget table js l.us.now l.vs.now l.ws.now r table' js' l'.us.now l'.vs.now l'.ws.now
