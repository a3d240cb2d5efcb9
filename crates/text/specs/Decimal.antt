-- Numbers as the program prints them: decimal digits without needless zeros, and a minus before what is below 0.
use Rattle.std.specs.Prelude.{cond, List, [], ◌∷◌, ◌++◌, ℕ, zero, suc, ◌+◌, ◌/◌, ◌%◌, ltb, ℤ, pos, negsuc}

-- the byte of a digit
abbrev pub digit : ℕ → ℕ
digit d = 48 + d

abbrev pub minus : ℕ
minus = 45

abbrev pub blank : ℕ
blank = 32

-- the digits of n, where m bounds how many there are
unfoldable pub digits : ℕ → ℕ → List ℕ
digits zero n = []
digits (suc m) n = cond (ltb n 10) (digit n ∷ []) (digits m (n / 10) ++ (digit (n % 10) ∷ []))

-- no number has more digits than itself and one
unfoldable pub decimal : ℕ → List ℕ
decimal n = digits (suc n) n

unfoldable pub signed : ℤ → List ℕ
signed (pos n) = decimal n
signed (negsuc n) = minus ∷ decimal (suc n)
