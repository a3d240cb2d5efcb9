-- The lowest sink of a subset.
use mathlib.Core.Path.{◌≡◌, ap, ◌∙◌}
use Prim.Native.Nat.{ℕ, ◌-◌, ◌*◌, ◌%◌, ◌^◌, ◌≤◌, ◌<◌}
use native.Mathlib.Nat.{lt_of_not-le, le_trans, lt_irrefl, mod-eq_of_lt}
use native.Mathlib.Omega.{arith}
use lib.Pow.{pow_mono}
use lib.Count.{count_trailing_zeros}
use Rattle.subsets.specs.Subsets.{lowest}
use Rattle.subsets.proofs.Digits.{low_le, low_pos, self_lt, tz_any}

-- what the code counts, of 32 digits
pub lowest_is : (s : ℕ) → 0 < s → s < 2 ^ 32 → count_trailing_zeros 32 s ≡ lowest s
lowest_is s h k = tz_any 32 s s h k (self_lt s)

-- the lowest sink of a subset of n sinks is one of them
pub lowest_lt : (n s : ℕ) → 0 < s → s < 2 ^ n → lowest s < n
lowest_lt n s h l = lt_of_not-le (λ m. lt_irrefl s (lt_of_lt_of_le' l (le_trans (pow_mono m) (low_le s s h (self_lt s)))))
  where
    lt_of_lt_of_le' : {a b c : ℕ} → a < b → b ≤ c → a < c
    lt_of_lt_of_le' p q = le_trans p q

-- the code's shift
pub shl_one : (s : ℕ) → 0 < s → s < 2 ^ 32 → 1 * 2 ^ count_trailing_zeros 32 s % 4294967296 ≡ 2 ^ lowest s
shl_one s h k =
    ap (λ (x : ℕ). 1 * 2 ^ x % 4294967296) (lowest_is s h k)
    ∙ omega (arith, mod-eq_of_lt {n = 1 * 2 ^ lowest s} {m = 4294967296} (omega (arith, low_le s s h (self_lt s))))

pub beyond_lt : (s : ℕ) → 0 < s → s - 2 ^ lowest s < s
beyond_lt s h = omega (arith, low_le s s h (self_lt s), low_pos s s)
