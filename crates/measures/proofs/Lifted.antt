-- Lifted numbers: what is computed on them is the lifted thing.
use mathlib.Core.Path.{◌≡◌, ap, ◌∙◌}
use mathlib.Core.Logic.{⊎_elim}
use Prim.Native.Nat.{ℕ, ◌+◌, ◌-◌, ◌*◌, ◌≤◌, max, min}
use native.Mathlib.Omega.{arith}
use lib.IntN.{ℤ, pos, sub_ℕ, ◌+ℤ◌, ◌-ℤ◌, nat_abs}
use Rattle.zero_skew.specs.Plane.{twice}
use Rattle.zero_skew.specs.Box.{larger, smaller}
use Rattle.zero_skew.proofs.Whole.{up, down, sub_is, add_is, minus_is, abs-minus, same, larger_l, larger_r, larger_one, smaller_l, smaller_r, smaller_one}
use Rattle.measures.specs.Measures.{Lifts, gap}

module _ (c : ℕ) where
  -- in naturals
  pub lifts : (z : ℤ) (n : ℕ) → Lifts c z n → up z + c ≡ n + down z
  lifts z n e = omega (arith, add_is z (pos c), ap up e, ap down e)

  pub lift_of : (z : ℤ) (n : ℕ) → up z + c ≡ n + down z → Lifts c z n
  lift_of z n e = same (z +ℤ pos c) (pos n) (omega (arith, add_is z (pos c)))

  pub lift_larger : (a b : ℤ) (m n : ℕ) → Lifts c a m → Lifts c b n → Lifts c (larger a b) (max m n)
  lift_larger a b m n p q =
      ⊎_elim
      (λ e. lift_of (larger a b) (max m n) (omega (arith, lifts a m p, lifts b n q, ap up e, ap down e, larger_r a b)))
      (λ e. lift_of (larger a b) (max m n) (omega (arith, lifts a m p, lifts b n q, ap up e, ap down e, larger_l a b)))
      (larger_one a b)

  pub lift_smaller : (a b : ℤ) (m n : ℕ) → Lifts c a m → Lifts c b n → Lifts c (smaller a b) (min m n)
  lift_smaller a b m n p q =
      ⊎_elim
      (λ e. lift_of (smaller a b) (min m n) (omega (arith, lifts a m p, lifts b n q, ap up e, ap down e, smaller_r a b)))
      (λ e. lift_of (smaller a b) (min m n) (omega (arith, lifts a m p, lifts b n q, ap up e, ap down e, smaller_l a b)))
      (smaller_one a b)

  -- to either side by a delay
  pub lift_plus : (z : ℤ) (n w : ℕ) → Lifts c z n → Lifts c (z +ℤ pos w) (n + w)
  lift_plus z n w p = lift_of (z +ℤ pos w) (n + w) (omega (arith, lifts z n p, add_is z (pos w)))

  pub lift_minus : (z : ℤ) (n w : ℕ) → w ≤ n → Lifts c z n → Lifts c (z -ℤ pos w) (n - w)
  lift_minus z n w h p = lift_of (z -ℤ pos w) (n - w) (omega (arith, lifts z n p, minus_is z (pos w)))

  -- how far two numbers are apart
  pub lift_apart : (a b : ℤ) (m n : ℕ) → Lifts c a m → Lifts c b n → nat_abs (a -ℤ b) ≡ gap m n
  lift_apart a b m n p q = abs-minus a b ∙ omega (arith, lifts a m p, lifts b n q)

  -- and back
  pub unlift : (z : ℤ) (n : ℕ) → Lifts c z n → sub_ℕ n c ≡ z
  unlift z n p = same (sub_ℕ n c) z (omega (arith, sub_is n c, lifts z n p))

  pub lifts_back : (n : ℕ) → Lifts c (sub_ℕ n c) n
  lifts_back n = lift_of (sub_ℕ n c) n (omega (arith, sub_is n c))

  pub unlift_once : (m n : ℕ) → sub_ℕ m c ≡ sub_ℕ n c → m ≡ n
  unlift_once m n e = omega (arith, sub_is m c, sub_is n c, ap up e, ap down e)

-- ---- the ends of a segment, doubled, so lifted by twice as much
pub from_lifts : (g : ℤ) (d h : ℕ) → d ≤ 2 * h → Lifts 64000000 g h → Lifts 128000000 (twice g -ℤ pos d) (2 * h - d)
from_lifts g d h s p =
    lift_of 128000000 (twice g -ℤ pos d) (2 * h - d) (omega (arith, lifts 64000000 g h p, add_is g g, minus_is (twice g) (pos d)))

pub upto_lifts : (g : ℤ) (d h : ℕ) → Lifts 64000000 g h → Lifts 128000000 (twice g +ℤ pos d) (2 * h + d)
upto_lifts g d h p =
    lift_of 128000000 (twice g +ℤ pos d) (2 * h + d) (omega (arith, lifts 64000000 g h p, add_is g g, add_is (twice g) (pos d)))
