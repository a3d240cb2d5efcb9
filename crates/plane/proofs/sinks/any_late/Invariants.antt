use mathlib.Core.Path.{◌≡◌}
use Rattle.lists.specs.First.{any}
use Rattle.measures.specs.Range.{late}
use Rattle.plane.specs.Sinks.{too_late}
use Rattle.plane.proofs.sinks.any_late.Given as goal

abbrev pub invariant-loop-w : goal.invariant-loop-w
invariant-loop-w l = late l.most ≡ any (too_late l.delays) l.w-index
