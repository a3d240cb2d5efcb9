use mathlib.Core.Path.{◌≡◌}
use mathlib.Core.List.{List}
use Prim.Native.Nat.{ℕ, ◌^◌}
use Rattle.subsets.specs.Square.{Changed, farthest_in}
use Rattle.subsets.proofs.square.farthest.Given as goal

-- The invariant: the subsets of the first i sinks are done, which are `step` of them.
abbrev pub invariant-loop-i : goal.invariant-loop-i
invariant-loop-i l = (l.step ≡ 2 ^ l.i) × ((a : List ℕ) → Changed l.half 1 (farthest_in l.q l.j) a l.initial.ds → Changed l.half l.step (farthest_in l.q l.j) a l.ds)
