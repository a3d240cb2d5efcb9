use mathlib.Core.Path.{◌≡◌}
use Prim.Native.Nat.{◌-◌, ◌^◌}
use Rattle.subsets.specs.Subsets.{lowest}
use Rattle.subsets.proofs.Digits.{Sub}
use Rattle.subsets.proofs.KeptParts.{found}
use Rattle.search.proofs.kept.kept.Given as goal

abbrev pub invariant-loop-other : goal.invariant-loop-other
invariant-loop-other l = let o = l.other-iterator in (o.whole ≡ l.s - 2 ^ lowest l.s) × Sub o.next (l.s - 2 ^ lowest l.s) × (found l.d l.table l.s l.goal o.next ≡ found l.d l.table l.s l.goal l.rest)
