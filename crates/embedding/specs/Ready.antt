-- For the code alone: what the checks of a call leave, and what is done then.
use Rattle.std.specs.Prelude.{◌≡◌, List, ℕ, ◌-◌, ◌*◌, ◌≤◌, ℤ, length}
use Rattle.lists.specs.Grow.{front}
use Rattle.plane.specs.Sinks.{sinks_at}
use Rattle.plane.specs.declared.sinks.Sinks as lent
use Rattle.embedding.specs.declared.layout.Layout.{Layout}
use Rattle.orders.specs.Nodes.{places_u, places_v, wires, total}
use Rattle.orders.specs.Sound.{Sound}

-- the inputs are sound, and the three buffers have room
pub record Ready (xs ys : List ℤ) (delays js : List ℕ) (us vs : List ℤ) (ws : List ℕ) : Type 0 where
  pub sound : Sound xs ys delays js
  pub room_u : 2 * length xs - 1 ≤ length us
  pub room_v : 2 * length xs - 1 ≤ length vs
  pub room_w : 2 * length xs - 1 ≤ length ws

-- the inputs, the three buffers before, the result, and the three buffers after
pub record Embeds (xs ys : List ℤ) (delays js : List ℕ) (us vs : List ℤ) (ws : List ℕ) (t : ℕ) (us' vs' : List ℤ) (ws' : List ℕ) : Type 0 where
  pub sums : t ≡ total (sinks_at xs ys delays) js
  pub writes_u : us' ≡ front (places_u (sinks_at xs ys delays) js) us
  pub writes_v : vs' ≡ front (places_v (sinks_at xs ys delays) js) vs
  pub writes_w : ws' ≡ front (wires (sinks_at xs ys delays) js) ws

-- the same of what a caller lends
abbrev pub ReadyIn : lent.Sinks → List ℕ → Layout → Type 0
ReadyIn s js l = Ready s.xs.now s.ys.now s.delays.now js l.us.now l.vs.now l.ws.now

abbrev pub EmbedsIn : lent.Sinks → List ℕ → Layout → ℕ → Layout → Type 0
EmbedsIn s js l t l' = Embeds s.xs.now s.ys.now s.delays.now js l.us.now l.vs.now l.ws.now t l'.us.now l'.vs.now l'.ws.now
