-- The rule in words: "the two live nodes whose union has the least diameter; then the lower first number; then the lower second"; and the lists of pairs that follow it.
use Rattle.std.specs.Prelude.{◌≡◌, cond, List, [], ◌∷◌, ◌++◌, ℕ, ◌+◌, ◌-◌, ◌*◌, ◌≤◌, ◌<◌, length}
use Rattle.lists.specs.Grow.{up_to}
use Rattle.zero_skew.specs.Plane.{Sinks}
use Rattle.zero_skew.specs.Box.{diameter}
use Rattle.orders.specs.Joins.{left, right, named}
use Rattle.orders.specs.Nodes.{below}
use Rattle.partners.specs.declared.pair.Pair.{Pair}
use Rattle.partners.specs.Closest.{pair}

-- x stands in a list
pub data In (x : ℕ) : List ℕ → Type 0 where
  hit : {ls : List ℕ} → In x (x ∷ ls)
  next : {a : ℕ} {ls : List ℕ} → In x ls → In x (a ∷ ls)

-- p goes before q, or is q, where the union of nodes a and b measures `d a b`
pub record Leads (d : ℕ → ℕ → ℕ) (p q : Pair) : Type 0 where
  pub nearer : d p.low p.high ≤ d q.low q.high
  pub then_low : d p.low p.high ≡ d q.low q.high → p.low ≤ q.low
  pub then_high : d p.low p.high ≡ d q.low q.high → p.low ≡ q.low → p.high ≤ q.high

-- p is a pair of live nodes, written lower number first, and goes before every other
pub record Chosen (d : ℕ → ℕ → ℕ) (live : List ℕ) (p : Pair) : Type 0 where
  pub low_live : In p.low live
  pub high_live : In p.high live
  pub up : p.low < p.high
  pub leads : (a b : ℕ) → In a live → In b live → a < b → Leads d p (pair a b)

-- ---- a whole list of pairs js over n sinks, where pair i makes node n + i
-- of a list of nodes those that the first k entries of js do not name
unfoldable pub unnamed : List ℕ → ℕ → List ℕ → List ℕ
unnamed js k [] = []
unnamed js k (a ∷ nodes) = cond (named js k a) (unnamed js k nodes) (a ∷ unnamed js k nodes)

-- the live nodes at pair i: of the sinks and the nodes that earlier pairs make, those that no earlier pair names
abbrev pub live_at : ℕ → List ℕ → ℕ → List ℕ
live_at n js i = unnamed js (2 * i) (up_to (n + i))

-- the diameter of the union of nodes a and b: of the sinks below either
abbrev pub measured : Sinks → ℕ → List ℕ → ℕ → ℕ → ℕ
measured s n js a b = diameter s (below n js a ++ below n js b)

-- "Begin with all sinks. Join the two live nodes whose union has the least diameter; then the lower first number; then the lower second. A pair is written lower number first."
pub record ByRule (s : Sinks) (n : ℕ) (js : List ℕ) : Type 0 where
  pub count : length js ≡ 2 * (n - 1)
  pub each : (i : ℕ) → i < n - 1 → Chosen (measured s n js) (live_at n js i) (pair (left js i) (right js i))
