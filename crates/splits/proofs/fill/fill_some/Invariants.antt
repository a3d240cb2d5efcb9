use Prim.Native.Nat.{◌≤◌}
use Rattle.subsets.specs.Square.{held}
use Rattle.subsets.proofs.Filling.{Filling}
use Rattle.splits.proofs.fill.fill_some.Given as goal

abbrev pub invariant-loop-s : goal.invariant-loop-s
invariant-loop-s l = (l.left ≤ l.budget) × Filling (held l.ds) l.n l.budget l.initial.table l.s l.left l.table
