-- What a call of `embed` may do: its contract.
use Rattle.std.specs.Prelude.{◌≡◌, List, ℕ, ℤ, length}
use Rattle.lists.specs.Grow.{front}
use Rattle.plane.specs.Sinks.{sinks_at}
use Rattle.plane.specs.declared.sinks.Sinks as lent
use Rattle.embedding.specs.declared.layout.Layout.{Layout}
use Rattle.plane.specs.Said.{Said, if_answered}
use Rattle.orders.specs.Nodes.{places_u, places_v, wires}
use Rattle.embedding.specs.Embedding.{answer}

-- the inputs, the three buffers before, the answer, and the three buffers after
pub record Permitted (xs ys : List ℤ) (delays js : List ℕ) (us vs : List ℤ) (ws : List ℕ) (said : Said ℕ) (us' vs' : List ℤ) (ws' : List ℕ) : Type 0 where
  pub answers : said ≡ answer xs ys delays js (length us) (length vs) (length ws)
  pub writes_u : us' ≡ front (if_answered said (places_u (sinks_at xs ys delays) js)) us
  pub writes_v : vs' ≡ front (if_answered said (places_v (sinks_at xs ys delays) js)) vs
  pub writes_w : ws' ≡ front (if_answered said (wires (sinks_at xs ys delays) js)) ws

-- the same of what a caller lends
abbrev pub PermittedIn : lent.Sinks → List ℕ → Layout → Said ℕ → Layout → Type 0
PermittedIn s js l said l' = Permitted s.xs.now s.ys.now s.delays.now js l.us.now l.vs.now l.ws.now said l'.us.now l'.vs.now l'.ws.now
