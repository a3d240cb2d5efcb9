-- Fair boxes: their diameter, the hull of two, the box of one sink.
use Prim.Native.Nat.{ℕ, ◌≤◌}
use native.Mathlib.Omega.{arith}
use lib.IntN.{ℤ}
use Rattle.measures.specs.declared.boxes.Box.{Box}
use Rattle.measures.specs.Range.{Central, Brief}
use Rattle.measures.specs.Boxes.{sink_box, hull_of, diam_of, Fair}
use Rattle.measures.proofs.Numbers.{lift_range}

pub fair-diam : {b : Box} → Fair b → diam_of b ≤ 28000000
unfolding diam_of
fair-diam {b} f = omega arith

pub fair-hull : {a b : Box} → Fair a → Fair b → Fair (hull_of a b)
fair-hull {a} {b} f g = omega arith

pub fair-sink : (x y : ℤ) (w : ℕ) → Central x → Central y → Brief w → Fair (sink_box x y w)
fair-sink x y w a b h = let f = lift_range x a in let g = lift_range y b in omega arith
