use mathlib.Core.Path.{◌≡◌}
use Rattle.splits.proofs.Fours.{Fours}
use Rattle.splits.proofs.fill.least_of_fours.Given as goal

-- The loop's invariant is `Fours`.
abbrev pub invariant-loop-other : goal.invariant-loop-other
invariant-loop-other l = (l.other-iterator.whole ≡ l.last) × Fours l.table l.s l.second l.third l.other-iterator.next l.least
