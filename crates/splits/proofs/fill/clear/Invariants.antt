use mathlib.Core.Path.{◌≡◌}
use Rattle.subsets.proofs.Filling.{blanked}
use Rattle.splits.proofs.fill.clear.Given as goal

abbrev pub invariant-loop-s : goal.invariant-loop-s
invariant-loop-s l = l.blanks ≡ blanked l.s l.initial.blanks
