-- Bits of subsets: of sums, of powers of two, of the set of all sinks; and a subset is what its bits are.
use mathlib.Core.Path.{◌≡◌, refl, ◌∙◌}
use mathlib.Core.Bool.{true, cond}
use Prim.Native.Nat.{ℕ, zero, suc, ◌+◌, ◌-◌, ◌*◌, ◌/◌, ◌%◌, ◌^◌, ◌≤◌, ◌<◌, min}
use native.Mathlib.Nat.{pow-suc, pow-succ', div-div-eq-div-mul, div-one}
use native.Mathlib.Omega.{arith}
use lib.Bits.{bit_and, and_step}
use lib.Pow.{pow_pos}
use lib.Dec.{eqb, eqb-zero-suc, eqb-suc-zero, eqb-suc-suc}
use borrow.Author.Tests.{eq-eqb, eqb-true}
use Rattle.subsets.specs.Subsets.{holds}
use Rattle.subsets.proofs.Digits.{Sub, sub_digit, sub_half, sub_le}

-- 1 where sink i is in m, else 0
unfoldable pub bit : ℕ → ℕ → ℕ
bit zero m = m % 2
bit (suc i) m = bit i (m / 2)

bit_shift : (i m : ℕ) → bit i m ≡ m / 2 ^ i % 2
unfolding bit
bit_shift zero m = rw (div-one m) refl
bit_shift (suc i) m = bit_shift i (m / 2) ∙ (rw (div-div-eq-div-mul m 2 (2 ^ i), pow-succ' 2 i))

pub bit_holds : (i m : ℕ) → bit i m ≡ 1 → holds m i ≡ true
bit_holds i m e = eq-eqb (m / 2 ^ i % 2) 1 (rw (← bit_shift i m) e)

pub holds_bit : (i m : ℕ) → holds m i ≡ true → bit i m ≡ 1
holds_bit i m e = bit_shift i m ∙ eqb-true (m / 2 ^ i % 2) 1 e

pub bit_small : (i m : ℕ) → bit i m ≤ 1
unfolding bit
bit_small zero m = omega arith
bit_small (suc i) m = bit_small i (m / 2)

pub bit_none : (i : ℕ) → bit i 0 ≡ 0
unfolding bit
bit_none zero = refl
bit_none (suc i) = bit_none i

-- a single sink
pub bit_pow : (i j : ℕ) → bit i (2 ^ j) ≡ cond (eqb i j) 1 0
unfolding bit
bit_pow zero zero = refl
bit_pow zero (suc j) = rw (pow-suc 2 j, eqb-zero-suc j) (omega arith)
bit_pow (suc i) zero = rw (eqb-suc-zero i) (bit_none i)
bit_pow (suc i) (suc j) = rw (pow-suc 2 j, half (2 ^ j), eqb-suc-suc i j) (bit_pow i j)
  where
    half : (m : ℕ) → m * 2 / 2 ≡ m
    half m = omega arith

halves : (a b : ℕ) → a % 2 + b % 2 ≤ 1 → (a + b) / 2 ≡ a / 2 + b / 2
halves a b h = omega arith

-- the sum of two subsets with no sink in common is their union
pub bit_sum : (i a b : ℕ) → ((j : ℕ) → bit j a + bit j b ≤ 1) → bit i (a + b) ≡ bit i a + bit i b
unfolding bit
bit_sum zero a b apart = omega (arith, apart 0)
bit_sum (suc i) a b apart = rw (halves a b (apart 0)) (bit_sum i (a / 2) (b / 2) (λ j. apart (suc j)))

-- what a part leaves
pub bit_rest : (i m a : ℕ) → Sub a m → bit i a + bit i (m - a) ≡ bit i m
unfolding bit
bit_rest zero m a u = omega (arith, sub_le a m u, sub_digit a m u)
bit_rest (suc i) m a u =
    let e : (m - a) / 2 ≡ m / 2 - a / 2 = omega (arith, sub_le a m u, sub_digit a m u, sub_le (a / 2) (m / 2) (sub_half a m u)) in
    rw e (bit_rest i (m / 2) (a / 2) (sub_half a m u))

-- a subset is what its bits are
bits-upto : (fuel a b : ℕ) → a + b ≤ fuel → ((i : ℕ) → bit i a ≡ bit i b) → a ≡ b
unfolding bit
bits-upto zero a b few same = omega arith
bits-upto (suc fuel) a b few same = omega (arith, same 0, bits-upto fuel (a / 2) (b / 2) (omega arith) (λ i. same (suc i)))

pub bits_are : (a b : ℕ) → ((i : ℕ) → bit i a ≡ bit i b) → a ≡ b
bits_are a b same = bits-upto (a + b) a b (omega arith) same

bit_and_lem : (i a b : ℕ) → bit i (bit_and a b) ≡ min (bit i a) (bit i b)
unfolding bit
bit_and_lem zero a b = omega (arith, and_step a b)
bit_and_lem (suc i) a b = rw (half a b) (bit_and_lem i (a / 2) (b / 2))
  where
    half : (a b : ℕ) → bit_and a b / 2 ≡ bit_and (a / 2) (b / 2)
    half a b = omega (arith, and_step a b)

pub apart_and : (a b : ℕ) → ((i : ℕ) → bit i a + bit i b ≤ 1) → bit_and a b ≡ 0
apart_and a b apart = bits_are (bit_and a b) 0 (λ i. omega (arith, bit_and_lem i a b, bit_none i, apart i))

-- a subset of n sinks has no bit from n on
pub bits_low : (n m : ℕ) → ((i : ℕ) → n ≤ i → bit i m ≡ 0) → m < 2 ^ n
unfolding bit
bits_low zero m none = let e : m ≡ 0 = bits_are m 0 (λ i. none i (omega arith) ∙ rw (bit_none i)) in omega arith
bits_low (suc n) m none = rw (pow-suc 2 n) (omega (arith, bits_low n (m / 2) (λ i h. none (suc i) (omega arith))))

pub bit_high : (i m : ℕ) → m < 2 ^ i → bit i m ≡ 0
unfolding bit
bit_high zero m h = omega arith
bit_high (suc i) m h = bit_high i (m / 2) (let e : m < 2 ^ i * 2 = rw (← pow-suc 2 i) h in omega arith)

-- all sinks
pub bit_all : (n i : ℕ) → i < n → bit i (2 ^ n - 1) ≡ 1
unfolding bit
bit_all zero i h = absurd (omega arith)
bit_all (suc n) zero h = rw (pow-suc 2 n) (omega (arith, pow_pos n))
bit_all (suc n) (suc i) h = rw (pow-suc 2 n, half (2 ^ n) (pow_pos n)) (bit_all n i (omega arith))
  where
    half : (m : ℕ) → 0 < m → (m * 2 - 1) / 2 ≡ m - 1
    half m h = omega arith
