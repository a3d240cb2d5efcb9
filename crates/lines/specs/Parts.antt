-- For the code alone: what the lines of the nodes are written from, and the end of a refusal.
use Rattle.std.specs.Prelude.{Bool, List, [], ◌∷◌, ◌++◌, ℕ, ◌-◌, ◌*◌, ◌≤◌, ◌<◌, ℤ, length, get_or, Option, Some, None}
use Rattle.orders.specs.Sound.{Ordered}
use Rattle.plane.specs.Sinks.{Ranged}
use Rattle.plane.specs.declared.sinks.Sinks as lent
use Rattle.text.specs.Decimal.{decimal, blank}
use Rattle.lines.specs.Lines.{feed, parent_field, tree_text}
use Rattle.lines.specs.declared.embedded.Embedded.{Embedded}

-- the parents of n sinks' nodes, in a list with an entry for each node
pub record ParentsUp (n : ℕ) (ps : List ℕ) : Type 0 where
  pub some : 0 < n
  pub few : n ≤ 512
  pub tall_p : 2 * n - 1 ≤ length ps
  pub low_p : (k : ℕ) → k < 2 * n - 2 → get_or ps k 0 ≤ 2 * n - 2

-- and U, V and wires likewise
pub record Tall (t : Embedded) (ps : List ℕ) : Type 0 where
  pub up : ParentsUp t.n ps
  pub tall_u : 2 * t.n - 1 ≤ length t.us.now
  pub tall_v : 2 * t.n - 1 ≤ length t.vs.now
  pub tall_w : 2 * t.n - 1 ≤ length t.ws.now

-- a joining order of n sinks, and places and wires for its nodes
pub record Grown (t : Embedded) : Type 0 where
  pub ordered : Ordered t.n t.js.now
  pub tall_u : 2 * t.n - 1 ≤ length t.us.now
  pub tall_v : 2 * t.n - 1 ≤ length t.vs.now
  pub tall_w : 2 * t.n - 1 ≤ length t.ws.now

-- the lines of a tree, from what the code holds
abbrev pub text_with : Embedded → Bool → List ℕ
text_with t isProven = tree_text t.n t.total isProven t.js.now t.us.now t.vs.now t.ws.now

-- the last field of a node's line
abbrev pub from_parent : ℕ → List ℕ → ℕ → List ℕ
from_parent n ps k = blank ∷ parent_field n ps k ++ (feed ∷ [])

-- the last field of a refusal, if any, and the line feed
abbrev pub place_end : Option ℕ → List ℕ
place_end None = feed ∷ []
place_end (Some i) = blank ∷ decimal i ++ (feed ∷ [])

-- sinks that were checked
pub record Sinked (xs ys : List ℤ) (delays : List ℕ) : Type 0 where
  pub ranged : Ranged xs ys delays
  pub some : 0 < length xs
  pub few : length xs ≤ 512

abbrev pub SinkedBy : lent.Sinks → Type 0
SinkedBy s = Sinked s.xs.now s.ys.now s.delays.now
