-- Boxes whose ends stand in order.
use mathlib.Core.List.{List}
use Prim.Native.Nat.{ℕ}
use native.Mathlib.Omega.{arith}
use Rattle.zero_skew.specs.Plane.{Sinks}
use Rattle.measures.specs.Boxes.{hull_of, InOrder}
use Rattle.measures.specs.Covers.{Covers}
use Rattle.measures.specs.declared.boxes.Box.{Box}

pub hull_in_order : (a b : Box) → InOrder b → InOrder (hull_of a b)
hull_in_order a b h = (omega (arith, h.0), omega (arith, h.1))

pub covers_in_order : {s : Sinks} {l : List ℕ} {b : Box} → Covers s l b → InOrder b
covers_in_order v = (v.fair.u_up, v.fair.v_up)
