-- Document 01, "Embedding a joining order": the segment of a node, and the value of a range that is nearest to another.
use Rattle.std.specs.Prelude.{List, ℕ, ℤ, pos, ◌+ℤ◌, ◌-ℤ◌}
use Rattle.zero_skew.specs.Plane.{Sinks, twice}
use Rattle.zero_skew.specs.Box.{larger, smaller, high, low, diameter}

-- "Segment of a node: U from 2·(greatest u) - d to 2·(least u) + d, and V likewise from v." Over the sinks l, along the axis c:
abbrev pub from : Sinks → (ℕ → ℤ) → List ℕ → ℤ
from s c l = twice (high s c l) -ℤ pos (diameter s l)

abbrev pub upto : Sinks → (ℕ → ℤ) → List ℕ → ℤ
upto s c l = twice (low s c l) +ℤ pos (diameter s l)

-- of the values from a to b, the one nearest to z
abbrev pub nearest : ℤ → ℤ → ℤ → ℤ
nearest a b z = larger a (smaller b z)

-- "on each axis the value in the node's range nearest to its parent's value": of a node over the sinks l, under a parent at z
abbrev pub placed : Sinks → (ℕ → ℤ) → List ℕ → ℤ → ℤ
placed s c l z = nearest (from s c l) (upto s c l) z
