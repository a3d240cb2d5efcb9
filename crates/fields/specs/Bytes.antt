-- Document 01, "House files": "numbers are big-endian, x, y, U and V in two's complement".
use Rattle.std.specs.Prelude.{List, [], ◌∷◌, ◌++◌, ℕ, zero, suc, ◌+◌, ◌*◌, ◌/◌, ◌%◌, ◌<◌, ℤ, get_or}
use Rattle.std.specs.Int.{w32}
use Rattle.std.proofs.Common.{of_z, to_z}

-- n in w bytes, the highest byte first
unfoldable pub big : ℕ → ℕ → List ℕ
big zero n = []
big (suc w) n = big w (n / 256) ++ (n % 256 ∷ [])

-- the number that stands in w bytes from byte i on
unfoldable pub number_at : ℕ → List ℕ → ℕ → ℕ
number_at zero f i = 0
number_at (suc w) f i = 256 * number_at w f i + get_or f (i + w) 0

-- a number with sign as one of 32 bits, in two's complement, and back: Rattle's own `i32`
abbrev pub bits : ℤ → ℕ
bits z = of_z w32 z

abbrev pub signed : ℕ → ℤ
signed n = to_z w32 n

-- a list of bytes: what a slice of `u8` holds
pub record Bytes (f : List ℕ) : Type 0 where
  pub byte : (i : ℕ) → get_or f i 0 < 256
