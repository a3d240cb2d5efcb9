-- Numbers with sign where they enter and leave the code.
use mathlib.Core.Path.{◌≡◌, refl, sym, ap, ◌∙◌}
use mathlib.Core.Bool.{Bool, true, false, ◌&&◌}
use Prim.Native.Nat.{ℕ, suc, ◌+◌, ◌-◌, ◌≤◌, ◌<◌, ◌^◌}
use native.Mathlib.Omega.{arith}
use lib.IntN.{ℤ, pos, negsuc, sub_ℕ, ◌+ℤ◌}
use lib.Signed.{mag}
use lib.Dec.{T, leb, leb→le, le→leb, ltb, ltb→lt, nltb→le, eqb}
use borrow.Author.Tests.{le-ltb, eq-eqb, ne_eqb, eqb-true, eqb-false}
use mir.Val.{SFits, bits, hbits, of_z, to_z}
use mir.Facts.{to_z-of_z}
use mir.Syntax.{Width, w32, w64}
use Rattle.lists.proofs.Tests.{choice}
use Rattle.measures.specs.declared.measure.Doubled.{Doubled}
use Rattle.measures.specs.Range.{Central, in_range, equal}
use Rattle.measures.specs.Measures.{lift, unlifted, lowered, raised}

abbrev pub doubled : ℕ → Doubled
doubled n = record { 0 = n }

-- ---- a coordinate in range, counted from its corner
and_left : (a b : Bool) → T (a && b) → T a
and_left true b t = tt
and_left false b t = absurd t

and_in : (a b : Bool) → T a → T b → T (a && b)
and_in true b p q = q
and_in false b p q = absurd p

below : (n : ℕ) → Central (negsuc n) → n ≤ 3999999
below n t = leb→le n 3999999 (and_left (leb n 3999999) true t)

pub lifted : (x : ℤ) → Central x → x +ℤ pos 32000000 ≡ pos (lift x)
lifted (pos n) t = refl
lifted (negsuc n) t = let h = below n t in rw (le-ltb 32000000 (suc n) (omega arith))

pub lift_range : (x : ℤ) → Central x → (28000000 ≤ lift x) × (lift x ≤ 36000000)
lift_range (pos n) t = let h : n ≤ 4000000 = leb→le n 4000000 t in (omega arith, omega arith)
lift_range (negsuc n) t = let h = below n t in (omega arith, omega arith)

-- what may be the coordinate of a sink is, and nearer to 0
pub nearer : (x : ℤ) → T (in_range x) → Central x
nearer (pos n) t = le→leb n 4000000 (let h : n ≤ 1000000 = leb→le n 1000000 t in omega arith)
nearer (negsuc n) t = and_in (leb n 3999999) true (le→leb n 3999999 (let h : n ≤ 999999 = leb→le n 999999 (and_left (leb n 999999) true t) in omega arith)) tt

pub lift_inner : (x : ℤ) → T (in_range x) → (31000000 ≤ lift x) × (lift x ≤ 33000000)
lift_inner (pos n) t = let h : n ≤ 1000000 = leb→le n 1000000 t in (omega arith, omega arith)
lift_inner (negsuc n) t = let h : n ≤ 999999 = leb→le n 999999 (and_left (leb n 999999) true t) in (omega arith, omega arith)

-- ---- what fits a signed width
pub pos_fits : (n : ℕ) → n ≤ 1000000000 → SFits w32 (pos n)
pos_fits n h = record { sfits = omega arith }

pub sub_fits : (w : Width) (n c : ℕ) → n < 2 ^ hbits w → c < 2 ^ hbits w → SFits w (sub_ℕ n c)
sub_fits w n c h g = record { sfits = choice (λ z. mag z < 2 ^ hbits w) (ltb n c) (negsuc (c - suc n)) (pos (n - c)) (λ t. omega arith) (λ t. omega arith) }

-- a doubled coordinate that is written to a buffer is read back as it was
pub wrote : (r : ℤ) (n : ℕ) → n ≤ 1000000000 → r ≡ lowered n → to_z w32 (of_z w32 r) ≡ lowered n
wrote r n h e = rw e (to_z-of_z (sub_fits w32 n 128000000 (omega arith) (omega arith)))

pub raised-lowered : (n : ℕ) → raised (lowered n) ≡ doubled n
raised-lowered n =
    choice (λ z. raised z ≡ doubled n) (ltb n 128000000) (negsuc (128000000 - suc n)) (pos (n - 128000000))
    (λ t. let h : n < 128000000 = ltb→lt n 128000000 t in let e : 128000000 - suc (128000000 - suc n) ≡ n = omega arith in ap doubled e)
    (λ t. let h : 128000000 ≤ n = nltb→le n 128000000 t in let e : n - 128000000 + 128000000 ≡ n = omega arith in ap doubled e)

-- and so is a tilted one
pub stored : {r : ℤ} {n : ℕ} → (r ≡ unlifted n) × (n < 2 ^ 32) → to_z w64 (of_z w64 r) ≡ unlifted n
stored {r} {n} (e, h) = rw e (to_z-of_z (sub_fits w64 n 64000000 (omega arith) (omega arith)))

-- ---- two numbers of 32 bits are equal where their bits are
pub same_bits : (a b : ℤ) → SFits w32 a → SFits w32 b → eqb (of_z w32 a) (of_z w32 b) ≡ equal a b
same_bits (pos a) (pos b) f g = refl
same_bits (pos a) (negsuc b) f g = ne_eqb a (2 ^ bits w32 - suc b) (λ e. omega (arith, f.sfits, g.sfits))
same_bits (negsuc a) (pos b) f g = ne_eqb (2 ^ bits w32 - suc a) b (λ e. omega (arith, f.sfits, g.sfits))
same_bits (negsuc a) (negsuc b) f g = go (eqb a b) refl
  where
    go : (t : Bool) → eqb a b ≡ t → eqb (2 ^ bits w32 - suc a) (2 ^ bits w32 - suc b) ≡ eqb a b
    go true e =
        let h = eqb-true a b e in
        eq-eqb (2 ^ bits w32 - suc a) (2 ^ bits w32 - suc b) (omega arith) ∙ sym e
    go false e =
        let h = eqb-false a b e in
        ne_eqb (2 ^ bits w32 - suc a) (2 ^ bits w32 - suc b) (λ q. h (omega (arith, f.sfits, g.sfits))) ∙ sym e
