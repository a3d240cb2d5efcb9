-- Document 01, "Embedding a joining order": clock trees, and what a zero-skew tree is. "Places and lengths are whole multiples of 1/k grid unit": a number of a tree counts so many.
use Rattle.std.specs.Prelude.{◌≡◌, cond, ℕ, ◌+◌, ◌*◌, ◌≤◌, ◌<◌, eqb}
use mathlib.Core.List.{List, [], ◌∷◌, ◌++◌, map, Memᴰ}
use Rattle.zero_skew.specs.Plane.{Place, Sinks, dist, scaled}

-- "two children at every join": a tree is a sink's number with a place, or a place with two trees, each with the length of the wire down to it.
pub data Tree : Type 0 where
  leaf : (sink : ℕ) → Place → Tree
  join : Place → (wireˡ : ℕ) → Tree → (wireʳ : ℕ) → Tree → Tree

abbrev pub top : Tree → Place
top (leaf i p) = p
top (join p a l b r) = p

-- the sinks of a tree, from left to right
unfoldable pub leaves : Tree → List ℕ
leaves (leaf i p) = i ∷ []
leaves (join p a l b r) = leaves l ++ leaves r

-- the length of all the wire
unfoldable pub wire : Tree → ℕ
wire (leaf i p) = 0
wire (join p a l b r) = (a + wire l) + (b + wire r)

-- how often i stands in a list
unfoldable pub count : ℕ → List ℕ → ℕ
count i [] = 0
count i (j ∷ l) = cond (eqb i j) 1 0 + count i l

-- each leaf stands where its sink does
abbrev pub AtSinks : Sinks → ℕ → Tree → Type 0
AtSinks s k (leaf i p) = p ≡ scaled k (s.at i)
AtSinks s k (join p a l b r) = AtSinks s k l × AtSinks s k r

-- "wires no shorter than the distance of their ends (length 0 allowed)"
abbrev pub Reaches : Tree → Type 0
Reaches (leaf i p) = Unit {0}
Reaches (join p a l b r) = (dist p (top l) ≤ a) × (dist p (top r) ≤ b) × Reaches l × Reaches r

-- when the clock is at each sink, from left to right: the length of the path from the top to it, and its own delay
unfoldable pub arrivals : Sinks → ℕ → Tree → List ℕ
arrivals s k (leaf i p) = (k * s.wait i) ∷ []
arrivals s k (join p a l b r) = map (λ q. a + q) (arrivals s k l) ++ map (λ q. b + q) (arrivals s k r)

-- "A zero-skew tree for demand 3 has the sinks as its only leaves, .. wires no shorter than the distance of their ends .., and equal path lengths."
pub record ZeroSkew (s : Sinks) (k : ℕ) (t : Tree) : Type 0 where
  pub at_sinks : AtSinks s k t
  pub reaches : Reaches t
  pub equal : (p q : ℕ) → Memᴰ p (arrivals s k t) → Memᴰ q (arrivals s k t) → p ≡ q
  pub once : (i : ℕ) → i < s.n → count i (leaves t) ≡ 1
  pub no_other : (i : ℕ) → s.n ≤ i → count i (leaves t) ≡ 0
