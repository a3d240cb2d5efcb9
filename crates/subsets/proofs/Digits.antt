-- Digits of subsets: which subsets lie within another, the lowest sink, and the next smaller subset.
use mathlib.Core.Path.{◌≡◌, refl, sym, ap, subst, subst₂, ◌∙◌}
use mathlib.Core.Logic.{◌⊎◌, inl, inr}
use Prim.Native.Nat.{ℕ, zero, suc, ◌+◌, ◌-◌, ◌*◌, ◌/◌, ◌%◌, ◌^◌, ◌≤◌, ◌<◌}
use native.Mathlib.Nat.{div-div-eq-div-mul, pow-succ', div-one}
use lib.Pow.{pow_pos}
use native.Mathlib.Omega.{arith}
use lib.Arith.{bin_ind}
use lib.Bits.{bit_and, and_step, and_le_l, and_le_r, and_zero_r}
use lib.Count.{count_trailing_zeros, ones, ones_step, under}

pub parity : (n : ℕ) → (n % 2 ≡ 0) ⊎ (n % 2 ≡ 1)
parity n = go (n % 2) refl (omega arith)
  where
    go : (b : ℕ) → n % 2 ≡ b → n % 2 < 2 → (n % 2 ≡ 0) ⊎ (n % 2 ≡ 1)
    go zero e h = inl e
    go (suc zero) e h = inr e
    go (suc (suc b)) e h = absurd (omega arith)

-- ---- a within s

abbrev pub Sub : ℕ → ℕ → Type 0
Sub a s = bit_and a s ≡ a

pub sub_half : (a s : ℕ) → Sub a s → Sub (a / 2) (s / 2)
sub_half a s h = omega (arith, and_step a s, and_le_l (a / 2) (s / 2), h)

pub sub_digit : (a s : ℕ) → Sub a s → a % 2 ≤ s % 2
sub_digit a s h = omega (arith, and_step a s, and_le_l (a / 2) (s / 2), h)

pub sub_join : (a s : ℕ) → a % 2 ≤ s % 2 → Sub (a / 2) (s / 2) → Sub a s
sub_join a s h k = omega (arith, and_step a s)

pub sub_le : (a s : ℕ) → Sub a s → a ≤ s
sub_le a s h = omega (arith, and_le_r a s, h)

pub sub_zero_is : (a : ℕ) → Sub a 0 → a ≡ 0
sub_zero_is a h = sym h ∙ and_zero_r a

-- what is left of s without a lies within s
pub sub_rest : (s a : ℕ) → Sub a s → Sub (s - a) s
sub_rest =
    bin_ind (λ (s : ℕ). (a : ℕ) → Sub a s → Sub (s - a) s)
    (λ a h. and_zero_r (0 - a) ∙ omega arith)
    (λ s ih a h.
    let l : a ≤ s = sub_le a s h in
    let g : a % 2 ≤ s % 2 = sub_digit a s h in
    let l2 : a / 2 ≤ s / 2 = sub_le (a / 2) (s / 2) (sub_half a s h) in
    let e : s / 2 - a / 2 ≡ (s - a) / 2 = omega arith in
    sub_join (s - a) s (omega arith) (subst (λ (x : ℕ). Sub x (s / 2)) e (ih (a / 2) (sub_half a s h))))

-- the sizes of the two parts
pub ones_rest : (s a : ℕ) → Sub a s → ones a + ones (s - a) ≡ ones s
ones_rest =
    bin_ind (λ (s : ℕ). (a : ℕ) → Sub a s → ones a + ones (s - a) ≡ ones s)
    (λ a h. subst (λ (x : ℕ). ones x + ones (0 - x) ≡ ones 0) (sym (sub_zero_is a h)) (unfold ones in refl))
    (λ s ih a h.
    let l : a ≤ s = sub_le a s h in
    let g : a % 2 ≤ s % 2 = sub_digit a s h in
    let l2 : a / 2 ≤ s / 2 = sub_le (a / 2) (s / 2) (sub_half a s h) in
    let e : s / 2 - a / 2 ≡ (s - a) / 2 = omega arith in
    let k : ones (a / 2) + ones ((s - a) / 2) ≡ ones (s / 2) = subst (λ (x : ℕ). ones (a / 2) + ones x ≡ ones (s / 2)) e (ih (a / 2) (sub_half a s h)) in
    omega (arith, ones_step a, ones_step s, ones_step (s - a)))

-- ---- the next smaller subset of r

pub sub_and : (r y : ℕ) → Sub (bit_and y r) r
sub_and =
    bin_ind (λ (r : ℕ). (y : ℕ) → Sub (bit_and y r) r)
    (λ y. subst (λ (x : ℕ). Sub x 0) (sym (and_zero_r y)) refl)
    (λ r ih y.
    let e : bit_and (y / 2) (r / 2) ≡ bit_and y r / 2 = omega (arith, and_step y r) in
    sub_join (bit_and y r) r (omega (arith, and_step y r)) (subst (λ (x : ℕ). Sub x (r / 2)) e (ih (y / 2))))

-- no subset of r lies between
pub gap : (r x z : ℕ) → Sub x r → Sub z r → z < x → z ≤ bit_and (x - 1) r
gap =
    bin_ind (λ (r : ℕ). (x z : ℕ) → Sub x r → Sub z r → z < x → z ≤ bit_and (x - 1) r)
    (λ x z h k l. omega (arith, sub_zero_is x h))
    (λ r ih x z h k l. go r ih x z h k l (parity x))
  where
    go : (r : ℕ) → ((x z : ℕ) → Sub x (r / 2) → Sub z (r / 2) → z < x → z ≤ bit_and (x - 1) (r / 2)) → (x z : ℕ) → Sub x r → Sub z r → z < x → (x % 2 ≡ 0) ⊎ (x % 2 ≡ 1) → z ≤ bit_and (x - 1) r
    go r ih x z h k l (inl e) =
        let p : (x - 1) / 2 ≡ x / 2 - 1 = omega arith in
        let q : z / 2 ≤ bit_and ((x - 1) / 2) (r / 2) = subst (λ (y : ℕ). z / 2 ≤ bit_and y (r / 2)) (sym p) (ih (x / 2) (z / 2) (sub_half x r h) (sub_half z r k) (omega arith)) in
        omega (arith, and_step (x - 1) r, sub_digit z r k)
    go r ih x z h k l (inr e) =
        let p : x / 2 ≡ (x - 1) / 2 = omega arith in
        let q : bit_and ((x - 1) / 2) (r / 2) ≡ (x - 1) / 2 = subst (λ (y : ℕ). Sub y (r / 2)) p (sub_half x r h) in
        omega (arith, and_step (x - 1) r)

-- ---- the lowest sink, of a number of d digits

tz_even : (d s : ℕ) → s % 2 ≡ 0 → count_trailing_zeros (suc d) s ≡ suc (count_trailing_zeros d (s / 2))
unfolding count_trailing_zeros
tz_even d s e = ap (λ (b : ℕ). under b (count_trailing_zeros d (s / 2))) e

tz_odd : (d s : ℕ) → s % 2 ≡ 1 → count_trailing_zeros (suc d) s ≡ 0
unfolding count_trailing_zeros
tz_odd d s e = ap (λ (b : ℕ). under b (count_trailing_zeros d (s / 2))) e

half_lt : (d s : ℕ) → s < 2 ^ suc d → s / 2 < 2 ^ d
half_lt d s h = omega arith

-- m digits are enough for m
pub self_lt : (m : ℕ) → m < 2 ^ m
self_lt zero = omega arith
self_lt (suc m) = omega (arith, self_lt m, pow-succ' 2 m)

-- and more of them make no difference
pub tz_any : (d e s : ℕ) → 0 < s → s < 2 ^ d → s < 2 ^ e → count_trailing_zeros d s ≡ count_trailing_zeros e s
tz_any zero e s h k l = absurd (omega arith)
tz_any (suc d) zero s h k l = absurd (omega arith)
tz_any (suc d) (suc e) s h k l = go (tz_any d e (s / 2)) (parity s)
  where
    go : (0 < s / 2 → s / 2 < 2 ^ d → s / 2 < 2 ^ e → count_trailing_zeros d (s / 2) ≡ count_trailing_zeros e (s / 2)) → (s % 2 ≡ 0) ⊎ (s % 2 ≡ 1) → count_trailing_zeros (suc d) s ≡ count_trailing_zeros (suc e) s
    go ih (inl z) = tz_even d s z ∙ ap suc (ih (omega arith) (half_lt d s k) (half_lt e s l)) ∙ sym (tz_even e s z)
    go ih (inr z) = tz_odd d s z ∙ sym (tz_odd e s z)

-- the number with that sink alone
abbrev pub low : ℕ → ℕ → ℕ
low d s = 2 ^ count_trailing_zeros d s

pub low_even : (d s : ℕ) → s % 2 ≡ 0 → low (suc d) s ≡ 2 * low d (s / 2)
low_even d s e = ap (λ (t : ℕ). 2 ^ t) (tz_even d s e) ∙ pow-succ' 2 (count_trailing_zeros d (s / 2))

pub low_odd : (d s : ℕ) → s % 2 ≡ 1 → low (suc d) s ≡ 1
low_odd d s e = ap (λ (t : ℕ). 2 ^ t) (tz_odd d s e)

pub low_le : (d s : ℕ) → 0 < s → s < 2 ^ d → low d s ≤ s
low_le zero s h k = omega arith
low_le (suc d) s h k = go (low_le d (s / 2)) (parity s)
  where
    go : (0 < s / 2 → s / 2 < 2 ^ d → low d (s / 2) ≤ s / 2) → (s % 2 ≡ 0) ⊎ (s % 2 ≡ 1) → low (suc d) s ≤ s
    go ih (inl e) = omega (arith, low_even d s e, ih (omega arith) (half_lt d s k))
    go ih (inr e) = omega (arith, low_odd d s e)

pub low_pos : (d s : ℕ) → 0 < low d s
low_pos d s = pow_pos (count_trailing_zeros d s)

-- ---- a part of s that holds the lowest sink, and what is left of s

div_low_even : (d s a : ℕ) → s % 2 ≡ 0 → a / low (suc d) s ≡ a / 2 / low d (s / 2)
div_low_even d s a e = ap (λ (x : ℕ). a / x) (low_even d s e) ∙ sym (div-div-eq-div-mul a 2 (low d (s / 2)))

pub part_left : (d s a : ℕ) → 0 < s → s < 2 ^ d → Sub a s → a / low d s % 2 ≡ 1 → Sub (s - a) (s - low d s)
part_left zero s a h k u v = absurd (omega arith)
part_left (suc d) s a h k u v = go (part_left d (s / 2) (a / 2)) (parity s)
  where
    l : a ≤ s
    l = sub_le a s u

    g : a % 2 ≤ s % 2
    g = sub_digit a s u

    l2 : a / 2 ≤ s / 2
    l2 = sub_le (a / 2) (s / 2) (sub_half a s u)

    go : (0 < s / 2 → s / 2 < 2 ^ d → Sub (a / 2) (s / 2) → a / 2 / low d (s / 2) % 2 ≡ 1 → Sub (s / 2 - a / 2) (s / 2 - low d (s / 2))) → (s % 2 ≡ 0) ⊎ (s % 2 ≡ 1) → Sub (s - a) (s - low (suc d) s)
    go ih (inl e) =
        let w : a / 2 / low d (s / 2) % 2 ≡ 1 = ap (λ (x : ℕ). x % 2) (sym (div_low_even d s a e)) ∙ v in
        let j : Sub (s / 2 - a / 2) (s / 2 - low d (s / 2)) = ih (omega arith) (half_lt d s k) (sub_half a s u) w in
        let m : low d (s / 2) ≤ s / 2 = low_le d (s / 2) (omega arith) (half_lt d s k) in
        let e1 : s / 2 - a / 2 ≡ (s - a) / 2 = omega (arith, l, g) in
        let e2 : s / 2 - low d (s / 2) ≡ (s - low (suc d) s) / 2 = omega (arith, low_even d s e) in
        sub_join (s - a) (s - low (suc d) s) (omega (arith, l, g)) (subst₂ Sub e1 e2 j)
    go ih (inr e) =
        let w : a % 2 ≡ 1 = ap (λ (x : ℕ). x % 2) (sym (ap (λ (x : ℕ). a / x) (low_odd d s e) ∙ div-one a)) ∙ v in
        let e1 : s / 2 - a / 2 ≡ (s - a) / 2 = omega (arith, l, g) in
        let e2 : s / 2 ≡ (s - low (suc d) s) / 2 = omega (arith, low_odd d s e) in
        sub_join (s - a) (s - low (suc d) s) (omega (arith, l, g)) (subst₂ Sub e1 e2 (sub_rest (s / 2) (a / 2) (sub_half a s u)))

pub left_part : (d s x : ℕ) → 0 < s → s < 2 ^ d → Sub x (s - low d s) → Sub (s - x) s × ((s - x) / low d s % 2 ≡ 1)
left_part zero s x h k u = absurd (omega arith)
left_part (suc d) s x h k u = go (left_part d (s / 2) (x / 2)) (parity s)
  where
    l : x ≤ s - low (suc d) s
    l = sub_le x (s - low (suc d) s) u

    g : x % 2 ≤ (s - low (suc d) s) % 2
    g = sub_digit x (s - low (suc d) s) u

    half : Sub (x / 2) ((s - low (suc d) s) / 2)
    half = sub_half x (s - low (suc d) s) u

    go : (0 < s / 2 → s / 2 < 2 ^ d → Sub (x / 2) (s / 2 - low d (s / 2)) → Sub (s / 2 - x / 2) (s / 2) × ((s / 2 - x / 2) / low d (s / 2) % 2 ≡ 1)) → (s % 2 ≡ 0) ⊎ (s % 2 ≡ 1) → Sub (s - x) s × ((s - x) / low (suc d) s % 2 ≡ 1)
    go ih (inl e) =
        let m : low d (s / 2) ≤ s / 2 = low_le d (s / 2) (omega arith) (half_lt d s k) in
        let e2 : (s - low (suc d) s) / 2 ≡ s / 2 - low d (s / 2) = omega (arith, low_even d s e) in
        let even : x % 2 ≡ 0 = omega (arith, g, low_even d s e) in
        let e1 : s / 2 - x / 2 ≡ (s - x) / 2 = omega (arith, l) in
        let j = ih (omega arith) (half_lt d s k) (subst (λ (y : ℕ). Sub (x / 2) y) e2 half) in (
          sub_join (s - x) s (omega (arith, l)) (subst (λ (y : ℕ). Sub y (s / 2)) e1 j.0),
          ap (λ (y : ℕ). y % 2) (div_low_even d s (s - x) e ∙ ap (λ (y : ℕ). y / low d (s / 2)) (sym e1)) ∙ j.1,
        )
    go ih (inr e) =
        let e2 : (s - low (suc d) s) / 2 ≡ s / 2 = omega (arith, low_odd d s e) in
        let even : x % 2 ≡ 0 = omega (arith, g, low_odd d s e) in
        let e1 : s / 2 - x / 2 ≡ (s - x) / 2 = omega (arith, l) in
        let odd : (s - x) % 2 ≡ 1 = omega (arith, l) in (
          sub_join (s - x) s (omega (arith, l)) (subst (λ (y : ℕ). Sub y (s / 2)) e1 (sub_rest (s / 2) (x / 2) (subst (λ (y : ℕ). Sub (x / 2) y) e2 half))),
          ap (λ (y : ℕ). y % 2) (ap (λ (y : ℕ). (s - x) / y) (low_odd d s e) ∙ div-one (s - x)) ∙ odd,
        )

-- the lowest sink's own size
pub ones_low : (d s : ℕ) → 0 < s → s < 2 ^ d → ones s ≡ suc (ones (s - low d s))
ones_low zero s h k = absurd (omega arith)
ones_low (suc d) s h k = go (ones_low d (s / 2)) (parity s)
  where
    go : (0 < s / 2 → s / 2 < 2 ^ d → ones (s / 2) ≡ suc (ones (s / 2 - low d (s / 2)))) → (s % 2 ≡ 0) ⊎ (s % 2 ≡ 1) → ones s ≡ suc (ones (s - low (suc d) s))
    go ih (inl e) =
        let m : low d (s / 2) ≤ s / 2 = low_le d (s / 2) (omega arith) (half_lt d s k) in
        let e2 : s / 2 - low d (s / 2) ≡ (s - low (suc d) s) / 2 = omega (arith, low_even d s e) in
        let e3 : (s - low (suc d) s) % 2 ≡ 0 = omega (arith, low_even d s e) in
        omega (arith, ones_step s, ones_step (s - low (suc d) s), ih (omega arith) (half_lt d s k), ap ones e2)
    go ih (inr e) =
        let e2 : s / 2 ≡ (s - low (suc d) s) / 2 = omega (arith, low_odd d s e) in
        let e3 : (s - low (suc d) s) % 2 ≡ 0 = omega (arith, low_odd d s e) in
        omega (arith, ones_step s, ones_step (s - low (suc d) s), ap ones e2)
