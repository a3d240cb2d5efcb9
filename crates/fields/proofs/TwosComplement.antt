-- Numbers with sign in 32 bits, in two's complement.
use mathlib.Core.Path.{◌≡◌, refl}
use mathlib.Core.Bool.{true, false}
use Prim.Native.Nat.{ℕ, suc, ◌≤◌, ◌<◌}
use native.Mathlib.Omega.{arith}
use borrow.Author.Tests.{lt-ltb, le-ltb, leb-false}
use lib.Dec.{T}
use lib.IntN.{ℤ, pos, negsuc, sub_ℕ, ◌+ℤ◌, nat_abs}
use lib.Signed.{le_z, non_neg}
use mir.Syntax.{w32}
use mir.Val.{SFits, Fits}
use Rattle.fields.specs.Bytes.{bits, signed}

-- a number from 0 on fits 32 bits, and is its own bits
pub record Unsigned (x : ℤ) : Type 0 where
  pub up : T (non_neg x)
  pub fits : Fits w32 (nat_abs x)
  pub is : nat_abs x ≡ bits x

-- so is each from 0 on that an `i32` holds
pub bits_up : (x : ℤ) → SFits w32 x → le_z (pos 0) x ≡ true → Unsigned x
bits_up (pos n) f l = record { up = tt; fits = record { fits = omega (arith, f.sfits) }; is = refl }
bits_up (negsuc n) f l = let z : ◌≡◌ {A = ℕ} 0 1 = cc in let b : ⊥ = omega arith in absurd b

-- one below 0 and 2 ^ 32 are its bits
pub bits_down : (x : ℤ) → SFits w32 x → le_z (pos 0) x ≡ false → x +ℤ pos 4294967296 ≡ pos (bits x)
bits_down (pos n) f l = let b : ⊥ = omega (arith, leb-false 0 n l) in absurd b
bits_down (negsuc n) f l = rw (le-ltb 4294967296 (suc n) (omega (arith, f.sfits)))

-- bits from 2 ^ 31 on, less 2 ^ 32, are the number with sign
pub signed_down : (n : ℕ) → 2147483648 ≤ n → n < 4294967296 → sub_ℕ n 4294967296 ≡ signed n
signed_down n h l = rw (lt-ltb n 4294967296 l, le-ltb n 2147483648 h)
