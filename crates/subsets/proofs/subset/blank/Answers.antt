use mathlib.Core.Path.{◌≡◌, refl}
use Prim.Native.Nat.{ℕ, zero, suc, ◌≤◌, ◌<◌}
use native.Mathlib.Omega.{arith}
use lib.Count.{ones}
use Rattle.subsets.specs.Table.{blank}
use Rattle.subsets.proofs.subset.blank.Goals as goal

small : (k : ℕ) → k < 2 → 0 ≡ blank k
small zero h = refl
small (suc zero) h = refl
small (suc (suc k)) h = absurd (omega arith)

large : (k : ℕ) → 2 ≤ k → 4294967295 ≡ blank k
large zero h = absurd (omega arith)
large (suc zero) h = absurd (omega arith)
large (suc (suc k)) h = refl

pub returns-then-s-lt2 : goal.returns-then-s-lt2
returns-then-s-lt2 c = small (ones c.args.s) c.if-s-lt2.true

pub returns-else-s-lt2 : goal.returns-else-s-lt2
returns-else-s-lt2 c = large (ones c.args.s) c.if-s-lt2.false
