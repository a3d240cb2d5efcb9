-- The digits of a number: by its last digit, by its sign, and how many there are. Those of a number of 64 bits are the figures that std prints.
use mathlib.Core.Path.{◌≡◌, refl, sym, ap, ◌∙◌}
use mathlib.Core.Bool.{Bool, true, false}
use mathlib.Core.List.{List, [], ◌∷◌, ◌++◌}
use Prim.Native.Nat.{ℕ, zero, suc, ◌*◌, ◌/◌, ◌%◌, ◌^◌, ◌≤◌, ◌<◌}
use native.Mathlib.Nat.{zero-add, pow-suc}
use native.Mathlib.Omega.{arith}
use borrow.Author.Tests.{lt-ltb, le-ltb, ltb-true, ltb-false}
use lib.Dec.{T, ltb}
use lib.Signed.{lt_z, non_neg}
use Rattle.std.specs.Prelude.{unsigned_abs}
use lib.IntN.{ℤ, pos, negsuc, ◌-ℤ◌}
use lib.ListN.{length, length-append}
use mir.Val.{SFits}
use mir.Syntax.{w32}
use Rattle.std.specs.Fmt.{decimal as printed}
use Rattle.std.proofs.lemmas.Fmt.{decimal_from_appends, length-decimal-le_succ}
use Rattle.text.specs.Decimal.{digit, digits, decimal, signed, minus}

digits_one : (m n : ℕ) → n < 10 → digits (suc m) n ≡ digit n ∷ []
unfolding digits
digits_one m n h = rw (lt-ltb n 10 h)

digits_more : (m n : ℕ) → 10 ≤ n → digits (suc m) n ≡ digits m (n / 10) ++ (digit (n % 10) ∷ [])
unfolding digits
digits_more m n h = rw (le-ltb n 10 h)

-- any bound will do
digits_same : (a b n : ℕ) → n < a → n < b → digits a n ≡ digits b n
digits_same zero b n h l = let f : ⊥ = omega arith in absurd f
digits_same (suc a) zero n h l = let f : ⊥ = omega arith in absurd f
digits_same (suc a) (suc b) n h l = go (ltb n 10) refl (digits_same a b (n / 10))
  where
    go : (t : Bool) → ltb n 10 ≡ t → (n / 10 < a → n / 10 < b → digits a (n / 10) ≡ digits b (n / 10)) → digits (suc a) n ≡ digits (suc b) n
    go true e r = let q = ltb-true n 10 e in digits_one a n q ∙ sym (digits_one b n q)
    go false e r =
        let q = ltb-false n 10 e in
        digits_more a n q
        ∙ ap (λ (s : List ℕ). s ++ (digit (n % 10) ∷ [])) (r (omega arith) (omega arith))
        ∙ sym (digits_more b n q)

pub decimal_printed : (n : ℕ) → n < 2 ^ 64 → decimal n ≡ printed n
unfolding decimal
decimal_printed n h =
    decimal_from_appends digits record { one = digits_one; more = digits_more } (suc n) n h (omega (arith, length-decimal-le_succ n h))

-- by its last digit
pub decimal_one : (n : ℕ) → n < 10 → decimal n ≡ digit n ∷ []
unfolding decimal
decimal_one n h = digits_one n n h

pub decimal_more : (n : ℕ) → 10 ≤ n → decimal n ≡ decimal (n / 10) ++ (digit (n % 10) ∷ [])
unfolding decimal
decimal_more n h =
    digits_more n n h ∙ ap (λ (s : List ℕ). s ++ (digit (n % 10) ∷ [])) (digits_same n (suc (n / 10)) (n / 10) (omega arith) (omega arith))

not_below : (n : ℕ) → ltb n 0 ≡ true → ⊥
not_below n h = omega (arith, ltb-true n 0 h)

-- a number below 0, taken from 0, is its magnitude
pub from_zero : (x : ℤ) → lt_z x (pos 0) ≡ true → pos 0 -ℤ x ≡ pos (unsigned_abs x)
from_zero (pos n) h = absurd (not_below n h)
from_zero (negsuc n) h = ap pos (zero-add (suc n))

-- a number that is not below 0 has no minus
pub not_low : (x : ℤ) → lt_z x (pos 0) ≡ false → T (non_neg x)
not_low (pos n) h = tt
not_low (negsuc n) h = let z : true ≡ false = h in absurd (cc)

-- by its sign
pub signed_low : (x : ℤ) → lt_z x (pos 0) ≡ true → signed x ≡ minus ∷ decimal (unsigned_abs x)
unfolding signed
signed_low (pos n) h = absurd (not_below n h)
signed_low (negsuc n) h = refl

pub signed_high : (x : ℤ) → lt_z x (pos 0) ≡ false → signed x ≡ decimal (unsigned_abs x)
unfolding signed
signed_high (pos n) h = refl
signed_high (negsuc n) h = let z : true ≡ false = h in absurd (cc)

-- a number below 10 ^ k has at most k digits
below_length : (k n : ℕ) → n < 10 ^ suc k → length (decimal n) ≤ suc k
below_length zero n h = rw (decimal_one n h) (omega arith)
below_length (suc k) n h = go (ltb n 10) refl (below_length k (n / 10))
  where
    go : (t : Bool) → ltb n 10 ≡ t → (n / 10 < 10 ^ suc k → length (decimal (n / 10)) ≤ suc k) → length (decimal n) ≤ suc (suc k)
    go true e r = let q = ltb-true n 10 e in rw (decimal_one n q) (omega arith)
    go false e r =
        let q = ltb-false n 10 e in
        let p : 10 ^ suc (suc k) ≡ 10 ^ suc k * 10 = pow-suc 10 (suc k) in
        rw (decimal_more n q, length-append (decimal (n / 10)) (digit (n % 10) ∷ [])) (omega (arith, r (omega arith)))

pub decimal-length : (k n : ℕ) → 0 < k → n < 10 ^ k → length (decimal n) ≤ k
decimal-length zero n p h = let f : ⊥ = omega arith in absurd f
decimal-length (suc k) n p h = below_length k n h

-- and at least one
pub decimal_some : (n : ℕ) → 0 < length (decimal n)
decimal_some n = go (ltb n 10) refl
  where
    go : (t : Bool) → ltb n 10 ≡ t → 0 < length (decimal n)
    go true e = rw (decimal_one n (ltb-true n 10 e)) (omega arith)
    go false e =
        rw (decimal_more n (ltb-false n 10 e), length-append (decimal (n / 10)) (digit (n % 10) ∷ [])) (omega arith)

-- a number of 32 bits has at most ten digits and a sign
pub signed-length : (x : ℤ) → SFits w32 x → length (signed x) ≤ 11
unfolding signed
signed-length (pos n) f = omega (arith, decimal-length 10 n (omega arith) (omega (arith, f.sfits)))
signed-length (negsuc n) f = omega (arith, decimal-length 10 (suc n) (omega arith) (omega (arith, f.sfits)))
