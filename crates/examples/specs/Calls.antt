-- The calls of the examples, and what may come of them.
use Rattle.std.specs.Prelude.{List, ℕ, ℤ}
use Rattle.zero_skew.specs.Plane.{Place}
use Rattle.zero_skew.specs.Box.{Bounds}
use Rattle.plane.specs.Said.{Said}
use Rattle.search.specs.declared.search.Found.{Found}

-- A call, of sinks with their x, y and delays, of pairs, or of a file's bytes. `room` is the length of each lent buffer; a search is lent a work table of `table` numbers, and its other buffers have room for whatever twelve sinks fill.
-- Beside the library's calls: `say`, only what a search says; `steps`, F(n); `node`, what stands at node k of the tree that embedding makes; `wire`, node k's wire in it.
pub data Call : Type 0 where
  box : (xs ys : List ℤ) (delays : List ℕ) → Call
  widen : (held : Bounds) (x y : ℤ) (delay : ℕ) → Call
  embed : (xs ys : List ℤ) (delays js : List ℕ) (room : ℕ) → Call
  join : (xs ys : List ℤ) (delays : List ℕ) (room : ℕ) → Call
  embed_nearest : (xs ys : List ℤ) (delays : List ℕ) (room : ℕ) → Call
  search : (xs ys : List ℤ) (delays : List ℕ) (budget table : ℕ) → Call
  say : (xs ys : List ℤ) (delays : List ℕ) (budget table : ℕ) → Call
  steps : (n : ℕ) → Call
  node : (xs ys : List ℤ) (delays js : List ℕ) (k : ℕ) → Call
  wire : (xs ys : List ℤ) (delays js : List ℕ) (k : ℕ) → Call
  write_sinks : (xs ys : List ℤ) (room : ℕ) → Call
  write_joined : (xs ys : List ℤ) (js : List ℕ) (room : ℕ) → Call
  write_tree : (xs ys : List ℤ) (js : List ℕ) (room : ℕ) → Call
  read_sinks : (file : List ℕ) (room : ℕ) → Call
  read_joined : (file : List ℕ) (room : ℕ) → Call
  read_tree : (file : List ℕ) (room : ℕ) → Call
  print : (file : List ℕ) → Call

-- What a call says, as values or by a refusal's number and place, and then what it writes from the front of each lent buffer. A box comes with its diameter; a place of the plane is in quarters of a grid unit, lengths are in half units.
pub data Outcome : Type 0 where
  boxed : Said (Bounds × ℕ) → Outcome
  widened : Said (Unit {0}) → (held : Bounds) → Outcome
  embedded : (total : Said ℕ) (us vs : List ℤ) (ws : List ℕ) → Outcome
  joined : Said (Unit {0}) → (js : List ℕ) → Outcome
  built : (total : Said ℕ) (js : List ℕ) (us vs : List ℤ) (ws : List ℕ) → Outcome
  searched : Said Found → (table js : List ℕ) (us vs : List ℤ) (ws : List ℕ) → Outcome
  told : Said Found → Outcome
  counted : ℕ → Outcome
  stands : (d : ℕ) (quarters : Place) → Outcome
  snakes : (wire distance surplus : ℕ) → Outcome
  wrote : (count : Said ℕ) (file : List ℕ) → Outcome
  got : (sinks : Said ℕ) (xs ys : List ℤ) (js : List ℕ) → Outcome
  printed : List ℕ → Outcome
