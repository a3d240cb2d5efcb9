use mathlib.Core.Path.{◌≡◌}
use Prim.Native.Nat.{◌^◌}
use Rattle.subsets.specs.Square.{Widths}
use Rattle.subsets.proofs.square.diameters.Given as goal

-- The loop's invariant: the diameters of the subsets of the first j sinks are in ds, and `half` is how many.
abbrev pub invariant-loop-j : goal.invariant-loop-j
invariant-loop-j l = (l.half ≡ 2 ^ l.j) × Widths l.q l.half l.ds
