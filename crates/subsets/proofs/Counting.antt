-- How many steps n sinks have.
use mathlib.Core.Path.{◌≡◌, refl, sym, ap, ap₂, ◌∙◌}
use mathlib.Core.List.{map}
use Prim.Native.Nat.{ℕ, zero, suc, ◌+◌, ◌-◌, ◌*◌, ◌/◌, ◌%◌, ◌^◌, ◌<◌}
use native.Mathlib.Nat.{pow-succ', zero-add}
use native.Mathlib.Numerals.{one-add}
use native.Mathlib.Omega.{arith}
use lib.ListN.{length, length-append, length-map}
use lib.Count.{ones, ones_step}
use lib.Pow.{pow_pos}
use Rattle.subsets.specs.Best.{step_count}
use Rattle.subsets.specs.Subsets.{rising, splits}
use Rattle.subsets.specs.Table.{pair_up, steps, steps_of}
use Rattle.subsets.proofs.Splits.{splits_count}

-- the subsets of s, counted
weight : ℕ → ℕ
weight s = 2 ^ ones s

-- of all numbers below k
total : ℕ → ℕ
total zero = 0
total (suc k) = total k + weight k

weight_even : (k : ℕ) → weight (2 * k) ≡ weight k
unfolding weight
weight_even k =
    let a : 2 * k % 2 ≡ 0 = omega arith in
    let b : 2 * k / 2 ≡ k = omega arith in
    ap (λ (x : ℕ). 2 ^ x) (ones_step (2 * k) ∙ ap₂ (λ (x y : ℕ). x + ones y) a b ∙ zero-add (ones k))

weight_odd : (k : ℕ) → weight (suc (2 * k)) ≡ 2 * weight k
unfolding weight
weight_odd k =
    let a : suc (2 * k) % 2 ≡ 1 = omega arith in
    let b : suc (2 * k) / 2 ≡ k = omega arith in
    ap (λ (x : ℕ). 2 ^ x) (ones_step (suc (2 * k)) ∙ ap₂ (λ (x y : ℕ). x + ones y) a b ∙ one-add (ones k)) ∙ pow-succ' 2 (ones k)

total_double : (k : ℕ) → total (2 * k) ≡ 3 * total k
unfolding total
total_double zero = refl
total_double (suc k) =
    ap total (let e : 2 * suc k ≡ suc (suc (2 * k)) = omega arith in e)
    ∙ omega (arith, total_double k, weight_even k, weight_odd k)

total_pow : (n : ℕ) → total (2 ^ n) ≡ 3 ^ n
unfolding total weight ones
total_pow zero = refl
total_pow (suc n) = ap total (pow-succ' 2 n) ∙ total_double (2 ^ n) ∙ ap (λ (x : ℕ). 3 * x) (total_pow n) ∙ sym (pow-succ' 3 n)

total_more : (k i : ℕ) → 0 < i → total i + 2 * (length (steps_of (rising k i)) + k) ≡ total (i + k)
unfolding steps_of rising total weight
total_more zero i h = omega (arith, ap total (let e : i + 0 ≡ i = omega arith in e))
total_more (suc k) i h =
    omega (
      arith,
      total_more k (suc i) (omega arith),
      ap total (let e : suc i + k ≡ i + suc k = omega arith in e),
      splits_count i h,
      length-append (map (pair_up i) (splits i)) (steps_of (rising k (suc i))),
      length-map (splits i) (pair_up i),
    )

pub steps_count : (n : ℕ) → length (steps n) ≡ step_count n
unfolding steps total weight ones
steps_count n =
    let o : 0 < 2 ^ n = pow_pos n in
    let m : total (1 + (2 ^ n - 1)) ≡ total (2 ^ n) = ap total (let e : 1 + (2 ^ n - 1) ≡ 2 ^ n = omega arith in e) in
    omega (arith, total_more (2 ^ n - 1) 1 (omega arith), total_pow n)
