-- For the code alone: where its lifted numbers and document 01's numbers with sign meet.
use Rattle.std.specs.Prelude.{List, ℕ}
use Rattle.zero_skew.specs.Plane.{Sinks, u, v}
use Rattle.zero_skew.specs.Box.{high, low}
use Rattle.measures.specs.declared.boxes.Box.{Box}
use Rattle.measures.specs.Measures.{Lifts}
use Rattle.measures.specs.Boxes.{Fair}

-- b is the box of the sinks l
pub record Covers (s : Sinks) (l : List ℕ) (b : Box) : Type 0 where
  pub least_u : Lifts 64000000 (low s (u s) l) b.lu.0
  pub most_u : Lifts 64000000 (high s (u s) l) b.hu.0
  pub least_v : Lifts 64000000 (low s (v s) l) b.lv.0
  pub most_v : Lifts 64000000 (high s (v s) l) b.hv.0
  pub fair : Fair b
