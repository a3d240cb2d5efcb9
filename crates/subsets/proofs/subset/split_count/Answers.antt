use Prim.Native.Nat.{ℕ, ◌*◌, ◌-◌, ◌^◌, ◌≤◌, suc}
use mathlib.Core.Path.{◌≡◌, ap, ◌∙◌}
use native.Mathlib.Nat.{pow-succ'}
use native.Mathlib.Omega.{arith}
use lib.Count.{ones, ones-le}
use lib.Pow.{pow_mono}
use Rattle.subsets.proofs.KeptParts.{ones_pos}
use Rattle.subsets.proofs.Splits.{splits_count}
use Rattle.subsets.proofs.subset.split_count.Goals as goal

pub overflow_sub-result : goal.overflow_sub-result
overflow_sub-result c = ones_pos c.args.s c.requires.0

pub returns : goal.returns
returns c =
    let s = c.args.s in
    let p : ones s ≡ suc (ones s - 1) = omega (arith, ones_pos s c.requires.0) in
    let e : 2 ^ ones s ≡ 2 * 2 ^ (ones s - 1) = ap (λ (x : ℕ). 2 ^ x) p ∙ pow-succ' 2 (ones s - 1) in
    let few : 2 ^ ones s ≤ 4096 = pow_mono {i = ones s} {j = 12} (ones-le 12 s c.requires.1) in
    omega (arith, e, few, splits_count s c.requires.0)
