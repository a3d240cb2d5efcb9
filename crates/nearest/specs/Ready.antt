-- For the code alone: what the checks leave, and what is done then.
use Rattle.std.specs.Prelude.{◌≡◌, List, ℕ, ◌-◌, ◌*◌, ◌≤◌, ◌<◌, ℤ, length}
use Rattle.lists.specs.Grow.{front}
use Rattle.plane.specs.Sinks.{sinks_at, Ranged}
use Rattle.plane.specs.declared.sinks.Sinks as lent
use Rattle.embedding.specs.declared.layout.Layout.{Layout}
use Rattle.orders.specs.Nodes.{places_u, places_v, wires, total}
use Rattle.nearest.specs.Calls.{order_at}

-- sinks that were checked, and room for their joins
pub record CanJoin (xs ys : List ℤ) (delays js : List ℕ) : Type 0 where
  pub ranged : Ranged xs ys delays
  pub some : 0 < length xs
  pub few : length xs ≤ 512
  pub room : 2 * (length xs - 1) ≤ length js

-- and room for the tree
pub record CanBuild (xs ys : List ℤ) (delays js : List ℕ) (us vs : List ℤ) (ws : List ℕ) : Type 0 where
  pub ready : CanJoin xs ys delays js
  pub room_u : 2 * length xs - 1 ≤ length us
  pub room_v : 2 * length xs - 1 ≤ length vs
  pub room_w : 2 * length xs - 1 ≤ length ws

-- the sinks, the four buffers before, the result, the four buffers after
pub record Trees (xs ys : List ℤ) (delays js : List ℕ) (us vs : List ℤ) (ws : List ℕ) (t : ℕ) (js' : List ℕ) (us' vs' : List ℤ) (ws' : List ℕ) : Type 0 where
  pub sums : t ≡ total (sinks_at xs ys delays) (order_at xs ys delays)
  pub writes_j : js' ≡ front (order_at xs ys delays) js
  pub writes_u : us' ≡ front (places_u (sinks_at xs ys delays) (order_at xs ys delays)) us
  pub writes_v : vs' ≡ front (places_v (sinks_at xs ys delays) (order_at xs ys delays)) vs
  pub writes_w : ws' ≡ front (wires (sinks_at xs ys delays) (order_at xs ys delays)) ws

-- the same of what a caller lends
abbrev pub CanBuildIn : lent.Sinks → List ℕ → Layout → Type 0
CanBuildIn s js l = CanBuild s.xs.now s.ys.now s.delays.now js l.us.now l.vs.now l.ws.now

abbrev pub TreesIn : lent.Sinks → List ℕ → Layout → ℕ → List ℕ → Layout → Type 0
TreesIn s js l t js' l' = Trees s.xs.now s.ys.now s.delays.now js l.us.now l.vs.now l.ws.now t js' l'.us.now l'.vs.now l'.ws.now
