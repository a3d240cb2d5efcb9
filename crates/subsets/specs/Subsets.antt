-- Document 01, "The exact search": subsets of the sinks, and their splits.
use Rattle.std.specs.Prelude.{Bool, true, false, ◌&&◌, List, [], ◌∷◌, ℕ, zero, suc, ◌/◌, ◌%◌, ◌^◌, eqb}
use Rattle.std.specs.Int.Bits.{bit_and}
use Rattle.std.specs.Int.Count.{count_trailing_zeros}
use Rattle.zero_skew.specs.Plane.{Sinks}
use Rattle.zero_skew.specs.Box.{diameter}

-- the numbers i, i + 1, .., k of them
unfoldable pub rising : ℕ → ℕ → List ℕ
rising zero i = []
rising (suc k) i = i ∷ rising k (suc i)

-- those of a list that a test takes
abbrev pub keep_if : Bool → ℕ → List ℕ → List ℕ
keep_if true x l = x ∷ l
keep_if false x l = l

unfoldable pub keep : (ℕ → Bool) → List ℕ → List ℕ
keep p [] = []
keep p (x ∷ l) = keep_if (p x) x (keep p l)

-- "A subset is a number whose bit i stands for sink i."
abbrev pub holds : ℕ → ℕ → Bool
holds m i = eqb (m / 2 ^ i % 2) 1

-- the sinks of a subset, of those below n
unfoldable pub sinks_in_subset : ℕ → ℕ → List ℕ
sinks_in_subset n m = keep (holds m) (rising n 0)

-- d of a subset
unfoldable pub diam : Sinks → ℕ → ℕ
diam s m = diameter s (sinks_in_subset s.n m)

-- the lowest sink of a subset, which is how many zeros stand below its lowest one (m has no more than m digits)
abbrev pub lowest : ℕ → ℕ
lowest m = count_trailing_zeros m m

-- each sink of a is in m
abbrev pub within : ℕ → ℕ → Bool
within a m = eqb (bit_and a m) a

-- "The splits of a subset are the choices of the part that holds its lowest sink, as rising numbers, the whole subset excluded."
unfoldable pub is_part : ℕ → ℕ → Bool
is_part m a = within a m && holds a (lowest m)

unfoldable pub splits : ℕ → List ℕ
splits m = keep (is_part m) (rising m 0)
