-- The sinks of a joining order as a subset.
use mathlib.Core.Path.{◌≡◌, refl, ap, ap₂, subst, sym, ◌∙◌}
use mathlib.Core.Logic.{◌⊎◌, inl, inr, ⊎_elim}
use mathlib.Core.Bool.{Bool, true, ◌&&◌}
use mathlib.Core.List.{List}
use Prim.Native.Nat.{ℕ, zero, suc, ◌+◌, ◌-◌, ◌*◌, ◌/◌, ◌%◌, ◌^◌, ◌≤◌, ◌<◌}
use native.Mathlib.Nat.{div-one, div-div-eq-div-mul}
use native.Mathlib.Omega.{arith}
use lib.Arith.{bin_ind}
use lib.Bits.{bit_and, and_step}
use lib.Count.{ones, ones_cat}
use lib.Pow.{pow_pos, pow_mono}
use borrow.Author.Tests.{eq-eqb}
use Rattle.lists.proofs.Tests.{or_lt}
use Rattle.zero_skew.specs.Plane.{Sinks}
use Rattle.zero_skew.specs.Box.{diameter}
use Rattle.zero_skew.specs.Tree.{count}
use Rattle.zero_skew.specs.Order.{Order, one, both, sinks_of, Over}
use Rattle.zero_skew.proofs.Count.{count_append, count_in, in_count}
use Rattle.zero_skew.proofs.Lemma1.{diam_within}
use Rattle.subsets.specs.Subsets.{diam, is_part, lowest, sinks_in_subset}
use Rattle.subsets.proofs.Bits.{apart_and, bit, bit_all, bit_high, bit_holds, bit_pow, bit_small, bit_sum, bits_are, holds_bit}
use Rattle.subsets.proofs.Digits.{Sub, low, low_even, low_odd, parity, sub_digit, sub_half, sub_join, sub_le}
use Rattle.subsets.proofs.Members.{in_sinks, sinks_in}

unfoldable pub mask : Order → ℕ
mask (one i) = 2 ^ i
mask (both l r) = mask l + mask r

pub mask_some : (o : Order) → 0 < mask o
unfolding mask
mask_some (one i) = pow_pos i
mask_some (both l r) = omega (arith, mask_some l)

-- no sink stands twice in an order
abbrev pub Once : Order → Type 0
Once o = (i : ℕ) → count i (sinks_of o) ≤ 1

module _ (l r : Order) (once : Once (both l r)) where
  pub apart_counts : (i : ℕ) → count i (sinks_of l) + count i (sinks_of r) ≤ 1
  unfolding sinks_of
  apart_counts i = omega (arith, once i, count_append i (sinks_of l) (sinks_of r))

  pub once_l : Once l
  once_l i = omega (arith, apart_counts i)

  pub once_r : Once r
  once_r i = omega (arith, apart_counts i)

pub mask_bit : (o : Order) → Once o → (i : ℕ) → bit i (mask o) ≡ count i (sinks_of o)
unfolding mask sinks_of count
mask_bit (one j) once i = rw (bit_pow i j) (omega arith)
mask_bit (both l r) once i =
    let ml = mask_bit l (once_l l r once) in
    let mr = mask_bit r (once_r l r once) in
    rw (bit_sum i (mask l) (mask r) (λ j. omega (arith, ml j, mr j, apart_counts l r once j)), count_append i (sinks_of l) (sinks_of r), ml i, mr i)

-- two parts with no sink in common
pub masks_apart : (l r : Order) → Once (both l r) → bit_and (mask l) (mask r) ≡ 0
masks_apart l r once =
    apart_and (mask l) (mask r) (λ i. omega (arith, mask_bit l (once_l l r once) i, mask_bit r (once_r l r once) i, apart_counts l r once i))

pub sub_sum : (l r : ℕ) → bit_and l r ≡ 0 → Sub l (l + r)
sub_sum =
    bin_ind (λ (l : ℕ). (r : ℕ) → bit_and l r ≡ 0 → Sub l (l + r))
    (λ r e. refl)
    (λ l ih r e.
    let h : bit_and (l / 2) (r / 2) ≡ 0 = omega (arith, and_step l r) in
    let d : l % 2 + r % 2 < 2 = omega (arith, and_step l r) in
    let s : l / 2 + r / 2 ≡ (l + r) / 2 = omega (arith, d) in
    sub_join l (l + r) (omega (arith, d)) (subst (λ (x : ℕ). Sub (l / 2) x) s (ih (r / 2) h)))

-- one of two parts holds the lowest sink
pub lowest_in : (d s a : ℕ) → 0 < s → s < 2 ^ d → Sub a s → (a / low d s % 2 ≡ 1) ⊎ ((s - a) / low d s % 2 ≡ 1)
lowest_in zero s a h k u = absurd (omega arith)
lowest_in (suc d) s a h k u = go (lowest_in d (s / 2) (a / 2)) (parity s) (parity a)
  where
    l : a ≤ s
    l = sub_le a s u

    g : a % 2 ≤ s % 2
    g = sub_digit a s u

    l2 : a / 2 ≤ s / 2
    l2 = sub_le (a / 2) (s / 2) (sub_half a s u)

    down : (x : ℕ) → s % 2 ≡ 0 → x / 2 / low d (s / 2) % 2 ≡ 1 → x / low (suc d) s % 2 ≡ 1
    down x e v = ap (λ (y : ℕ). y % 2) (ap (λ (y : ℕ). x / y) (low_even d s e) ∙ sym (div-div-eq-div-mul x 2 (low d (s / 2)))) ∙ v

    here : (x : ℕ) → s % 2 ≡ 1 → x % 2 ≡ 1 → x / low (suc d) s % 2 ≡ 1
    here x e v = ap (λ (y : ℕ). y % 2) (ap (λ (y : ℕ). x / y) (low_odd d s e) ∙ div-one x) ∙ v

    go : (0 < s / 2 → s / 2 < 2 ^ d → Sub (a / 2) (s / 2) → (a / 2 / low d (s / 2) % 2 ≡ 1) ⊎ ((s / 2 - a / 2) / low d (s / 2) % 2 ≡ 1))
        → (s % 2 ≡ 0) ⊎ (s % 2 ≡ 1) → (a % 2 ≡ 0) ⊎ (a % 2 ≡ 1) → (a / low (suc d) s % 2 ≡ 1) ⊎ ((s - a) / low (suc d) s % 2 ≡ 1)
    go ih (inl e) f =
        let e1 : s / 2 - a / 2 ≡ (s - a) / 2 = omega (arith, l, g) in
        ⊎_elim
        (λ v. inl (down a e v))
        (λ v. inr (down (s - a) e (ap (λ (y : ℕ). y / low d (s / 2) % 2) (sym e1) ∙ v)))
        (ih (omega arith) (omega arith) (sub_half a s u))
    go ih (inr e) (inl f) = inr (here (s - a) e (omega (arith, l)))
    go ih (inr e) (inr f) = inl (here a e f)

pub part_of : (s a : ℕ) → Sub a s → a / 2 ^ lowest s % 2 ≡ 1 → is_part s a ≡ true
unfolding is_part
part_of s a u v = ap₂ (λ (x y : Bool). x && y) (eq-eqb (bit_and a s) a u) (eq-eqb (a / 2 ^ lowest s % 2) 1 v)

pub ones_single : (i : ℕ) → ones (2 ^ i) ≡ 1
unfolding ones
ones_single i = ap ones (let e : 2 ^ i ≡ 1 * 2 ^ i + 0 = omega arith in e) ∙ ones_cat i 1 0 (pow_pos i)

-- ---- an order over all the sinks
module _ (s : Sinks) (o : Order) (over : Over s o) where
  pub over_once : Once o
  over_once i = ⊎_elim (λ h. omega (arith, over.once i h)) (λ h. omega (arith, over.no_other i h)) (or_lt i s.n)

  pub over_all : mask o ≡ 2 ^ s.n - 1
  over_all =
      bits_are (mask o) (2 ^ s.n - 1) (λ i. ⊎_elim
      (λ h. omega (arith, mask_bit o over_once i, over.once i h, bit_all s.n i h))
      (λ h. omega (arith, mask_bit o over_once i, over.no_other i h, past i h))
      (or_lt i s.n))
    where
      past : (i : ℕ) → s.n ≤ i → bit i (2 ^ s.n - 1) ≡ 0
      past i h = bit_high i (2 ^ s.n - 1) (omega (arith, pow_pos s.n, pow_mono h))

-- ---- a list that holds the sinks of a subset
module _ (s : Sinks) (m : ℕ) (l : List ℕ) (bits : (i : ℕ) → count i l ≡ bit i m) where
  pub diam_listed : diam s m ≤ diameter s l
  unfolding diam
  diam_listed = diam_within s (sinks_in_subset s.n m) l (λ i h. count_in i l (omega (arith, bits i, holds_bit i m (sinks_in s.n m i h).1)))

  pub listed_diam : ((i : ℕ) → s.n ≤ i → count i l ≡ 0) → diameter s l ≤ diam s m
  unfolding diam
  listed_diam none = diam_within s l (sinks_in_subset s.n m) (λ i h. ⊎_elim
      (λ p. in_sinks s.n m i p (bit_holds i m (omega (arith, bits i, in_count i l h, bit_small i m))))
      (λ p. absurd (omega (arith, none i p, in_count i l h)))
      (or_lt i s.n))
