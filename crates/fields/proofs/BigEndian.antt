-- Numbers as bytes, over the width: what is written is read back, and what is read is written back. Four bytes are twice two.
use mathlib.Core.Path.{◌≡◌, refl, sym, ◌∙◌}
use mathlib.Core.List.{List, [], ◌∷◌, ◌++◌}
use Prim.Native.Nat.{ℕ, zero, suc, ◌+◌, ◌*◌, ◌/◌, ◌%◌, ◌≤◌, ◌<◌, ◌^◌}
use native.Mathlib.Nat.{zero-add, add-zero, pow-succ'}
use native.Mathlib.Omega.{arith}
use lib.ListN.{length, get_or, take, drop, length-append, length-drop, get_or-append}
use lib.Seq.{take-suc, get_or_at, get_or-drop, get_or-append-add}
use Rattle.std.specs.Int.{w16, w32, to_be_bytes, from_be_bytes}
use Rattle.fields.specs.Bytes.{big, number_at, Bytes}

pub length-big : (w n : ℕ) → length (big w n) ≡ w
unfolding big
length-big zero n = refl
length-big (suc w) n = simp length-append (omega (arith, length-big w (n / 256)))

-- a number is read from its own bytes alone
pub number_same : (w : ℕ) (f g : List ℕ) (i j : ℕ) → ((k : ℕ) → k < w → get_or f (i + k) 0 ≡ get_or g (j + k) 0) → number_at w f i ≡ number_at w g j
unfolding number_at
number_same zero f g i j h = refl
number_same (suc w) f g i j h = omega (arith, number_same w f g i j (λ k l. h k (omega arith)), h w (omega arith))

-- what is written is read back
pub number-big : (w n : ℕ) → n < 256 ^ w → number_at w (big w n) 0 ≡ n
unfolding number_at big
number-big zero n h = omega arith
number-big (suc w) n h =
    let low : n / 256 < 256 ^ w = omega (arith, h, pow-succ' 256 w) in
    let r = number-big w (n / 256) low in
    let s =
    number_same w (big w (n / 256) ++ (n % 256 ∷ [])) (big w (n / 256)) 0 0
    (λ k l. simp zero-add (get_or-append (big w (n / 256)) (n % 256 ∷ []) 0 k (omega (arith, length-big w (n / 256))))) in
    let t = get_or_at (big w (n / 256)) (n % 256) [] 0 w (length-big w (n / 256)) in
    rw (s, r, zero-add, t) (omega arith)

-- also in the midst of other bytes
pub number_in : (w n : ℕ) (p r : List ℕ) (i : ℕ) → n < 256 ^ w → length p ≡ i → number_at w (p ++ (big w n ++ r)) i ≡ n
number_in w n p r i h e =
    number_same w (p ++ (big w n ++ r)) (big w n) i 0 (λ k l. within k l) ∙ number-big w n h
  where
    within : (k : ℕ) → k < w → get_or (p ++ (big w n ++ r)) (i + k) 0 ≡ get_or (big w n) (0 + k) 0
    within k l =
        rw (sym e, zero-add)
        (get_or-append-add p (big w n ++ r) k 0 ∙ get_or-append (big w n) r 0 k (omega (arith, length-big w n)))

-- what is read is written back
pub big-number : (w : ℕ) (f : List ℕ) (i : ℕ) → Bytes f → i + w ≤ length f → big w (number_at w f i) ≡ take w (drop i f)
unfolding number_at big
big-number zero f i b h = refl
big-number (suc w) f i b h =
    let l = b.byte (i + w) in
    let hi : (256 * number_at w f i + get_or f (i + w) 0) / 256 ≡ number_at w f i = omega arith in
    let lo : (256 * number_at w f i + get_or f (i + w) 0) % 256 ≡ get_or f (i + w) 0 = omega arith in
    rw (hi, lo, big-number w f i b (omega arith), take-suc (drop i f) w 0 (rw length-drop (omega arith)), get_or-drop)

-- a number that is read fits its bytes
pub number_fits : (w : ℕ) (f : List ℕ) (i : ℕ) → Bytes f → number_at w f i < 256 ^ w
unfolding number_at
number_fits zero f i b = omega arith
number_fits (suc w) f i b = omega (arith, number_fits w f i b, b.byte (i + w), pow-succ' 256 w)

-- the 4 bytes of a number are the 2 of its higher half and the 2 of its lower
pub big-halves : (n : ℕ) → big 4 n ≡ big 2 (n / 65536) ++ big 2 (n % 65536)
unfolding big
big-halves n =
    let a : n / 256 / 256 / 256 % 256 ≡ n / 65536 / 256 % 256 = omega arith in
    let b : n / 256 / 256 % 256 ≡ n / 65536 % 256 = omega arith in
    let c : n / 256 % 256 ≡ n % 65536 / 256 % 256 = omega arith in
    let d : n % 256 ≡ n % 65536 % 256 = omega arith in
    cc

-- the number in 4 bytes is made of those in the first 2 and in the last 2
pub number-halves : (f : List ℕ) (i : ℕ) → number_at 4 f i ≡ number_at 2 f i * 65536 + number_at 2 f (i + 2)
unfolding number_at
number-halves f i =
    let a : i + 2 + 0 ≡ i + 2 = omega arith in
    let b : i + 2 + 1 ≡ i + 3 = omega arith in
    rw (a, b) (omega arith)

-- Rust's own bytes of a number, and the number of such bytes
pub be_big2 : (n : ℕ) → to_be_bytes w16 n ≡ big 2 n
unfolding big
be_big2 n = refl

pub be_big4 : (n : ℕ) → to_be_bytes w32 n ≡ big 4 n
unfolding big
be_big4 n =
    let a : n / 256 ^ 3 % 256 ≡ n / 256 / 256 / 256 % 256 = omega arith in
    let b : n / 256 ^ 2 % 256 ≡ n / 256 / 256 % 256 = omega arith in
    cc

pub be_number2 : (f : List ℕ) (i : ℕ) → from_be_bytes w16 (get_or f i 0 ∷ get_or f (i + 1) 0 ∷ []) ≡ number_at 2 f i
unfolding number_at
be_number2 f i = rw add-zero (omega arith)

pub be_number4 : (f : List ℕ) (i : ℕ) → from_be_bytes w32 (get_or f i 0 ∷ get_or f (i + 1) 0 ∷ get_or f (i + 2) 0 ∷ get_or f (i + 3) 0 ∷ []) ≡ number_at 4 f i
unfolding number_at
be_number4 f i = rw add-zero (omega arith)
