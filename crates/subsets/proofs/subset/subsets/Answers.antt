use mathlib.Core.Path.{◌≡◌}
use Prim.Native.Nat.{◌≤◌, ◌<◌, ◌*◌, ◌^◌, ◌%◌}
use native.Mathlib.Omega.{arith}
use lib.Pow.{pow_mono, pow_pos}
use Rattle.subsets.proofs.subset.subsets.Goals as goal

pub returns : goal.returns
returns c =
    let n = c.args.n in
    let h : 2 ^ n ≤ 4096 = pow_mono {i = n} {j = 12} c.requires in
    let p : 0 < 2 ^ n = pow_pos n in
    let e : 1 * 2 ^ n % 4294967296 ≡ 2 ^ n = omega arith in
    (e, omega arith, omega arith)
