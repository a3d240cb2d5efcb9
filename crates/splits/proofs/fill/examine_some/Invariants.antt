use mathlib.Core.Path.{◌≡◌}
use Prim.Native.Nat.{◌-◌, ◌<◌, ◌^◌}
use Rattle.subsets.specs.Subsets.{lowest}
use Rattle.subsets.proofs.Scan.{Scan}
use Rattle.splits.proofs.fill.examine_some.Given as goal

-- The loop's invariant is `Scan`; that the least so far is a u32 is for the cast back.
abbrev pub invariant-loop-other : goal.invariant-loop-other
invariant-loop-other l = (l.best < 2 ^ 32) × (l.other-iterator.whole ≡ l.s - 2 ^ lowest l.s) × Scan l.d l.table l.s l.budget l.other-iterator.next l.left l.best
