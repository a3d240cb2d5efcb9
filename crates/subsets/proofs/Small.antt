-- No diameter of sinks in range is above 6,000,000.
use mathlib.Core.List.{List}
use Prim.Native.Nat.{ℕ, ◌≤◌}
use lib.IntN.{ℤ}
use lib.ListN.{length}
use Rattle.plane.specs.Sinks.{sinks_at, Ranged}
use Rattle.plane.proofs.Spread.{diameter_spread, ranged_spread}
use Rattle.subsets.specs.Subsets.{diam, sinks_in_subset}

pub diam_small : (xs ys : List ℤ) (delays : List ℕ) → Ranged xs ys delays → (m : ℕ) → diam (sinks_at xs ys delays) m ≤ 6000000
unfolding diam
diam_small xs ys delays r m = diameter_spread (ranged_spread 1000000 r.early r) (sinks_in_subset (length xs) m)
