use Prim.Native.Nat.{ℕ, ◌+◌, max}
use Rattle.subsets.specs.Square.{Changed, held}
use Rattle.subsets.proofs.square.widen.Given as goal

-- The invariant: the first r are done.
abbrev pub invariant-loop-r : goal.invariant-loop-r
invariant-loop-r l = Changed l.half l.r (λ (k : ℕ). max (held l.initial.ds (l.half + k)) (held l.initial.ds k)) l.initial.ds l.ds
