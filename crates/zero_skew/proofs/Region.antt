-- Ranges by naturals: how far one lies beyond another, and the ends of a merging segment along one axis.
use mathlib.Core.Path.{◌≡◌}
use mathlib.Core.Logic.{inl, inr, ⊎_elim}
use Prim.Native.Nat.{ℕ, ◌+◌, ◌-◌, ◌≤◌}
use native.Mathlib.Omega.{arith}
use lib.IntN.{ℤ, pos, ◌+ℤ◌, ◌-ℤ◌, nat_abs}
use lib.Signed.{le_z}
use Rattle.lists.proofs.Tests.{choice}
use Rattle.zero_skew.specs.Plane.{twice}
use Rattle.zero_skew.specs.Box.{larger, smaller}
use Rattle.zero_skew.specs.Region.{beyond}
use Rattle.zero_skew.proofs.Whole.{up, down, ◌⊑◌, le_z_yes, le_z_no, add_is, minus_is, abs-minus, same, larger_l, larger_r, larger_one, larger_is, smaller_l, smaller_r, smaller_one, smaller_is}
use Rattle.zero_skew.proofs.Placed.{from_is, upto_is}

-- ---- how far one value lies beyond another
pub beyond_over : (a b : ℤ) → up b + down a ≤ (up a + down b) + beyond a b
beyond_over a b = choice (λ n. up b + down a ≤ (up a + down b) + n) (le_z a b) (nat_abs (b -ℤ a)) 0
    (λ t. omega (arith, abs-minus b a)) (λ t. omega (arith, le_z_no a b t))

pub beyond_under : (a b : ℤ) (n : ℕ) → up b + down a ≤ (up a + down b) + n → beyond a b ≤ n
beyond_under a b n h = choice (λ m. m ≤ n) (le_z a b) (nat_abs (b -ℤ a)) 0
    (λ t. omega (arith, abs-minus b a, le_z_yes a b t)) (λ t. omega arith)

-- ---- the ends of a merging segment along one axis
lo_grown : (h : ℤ) (a d : ℕ) → a ≤ d → (twice h -ℤ pos a) -ℤ pos (d - a) ≡ twice h -ℤ pos d
lo_grown h a d w = same _ _ (omega (arith, from_is h a, from_is h d, minus_is (twice h -ℤ pos a) (pos (d - a))))

hi_grown : (h : ℤ) (a d : ℕ) → a ≤ d → (twice h +ℤ pos a) +ℤ pos (d - a) ≡ twice h +ℤ pos d
hi_grown h a d w = same _ _ (omega (arith, upto_is h a, upto_is h d, add_is (twice h +ℤ pos a) (pos (d - a))))

from_up : (a b : ℤ) (d : ℕ) → a ⊑ b → twice a -ℤ pos d ⊑ twice b -ℤ pos d
from_up a b d h = omega (arith, from_is a d, from_is b d)

upto_up : (a b : ℤ) (d : ℕ) → a ⊑ b → twice a +ℤ pos d ⊑ twice b +ℤ pos d
upto_up a b d h = omega (arith, upto_is a d, upto_is b d)

pub lo_merged : (g h : ℤ) (a b d : ℕ) → a ≤ d → b ≤ d → larger ((twice g -ℤ pos a) -ℤ pos (d - a)) ((twice h -ℤ pos b) -ℤ pos (d - b)) ≡ twice (larger g h) -ℤ pos d
lo_merged g h a b d p q = rw (lo_grown g a d p, lo_grown h b d q)
    (larger_is (twice g -ℤ pos d) (twice h -ℤ pos d) (twice (larger g h) -ℤ pos d) (from_up g (larger g h) d (larger_l g h)) (from_up h (larger g h) d (larger_r g h))
    (⊎_elim (λ e. inl (from_up (larger g h) g d (rw e (omega arith)))) (λ e. inr (from_up (larger g h) h d (rw e (omega arith)))) (larger_one g h)))

pub hi_merged : (g h : ℤ) (a b d : ℕ) → a ≤ d → b ≤ d → smaller ((twice g +ℤ pos a) +ℤ pos (d - a)) ((twice h +ℤ pos b) +ℤ pos (d - b)) ≡ twice (smaller g h) +ℤ pos d
hi_merged g h a b d p q = rw (hi_grown g a d p, hi_grown h b d q)
    (smaller_is (twice g +ℤ pos d) (twice h +ℤ pos d) (twice (smaller g h) +ℤ pos d) (upto_up (smaller g h) g d (smaller_l g h)) (upto_up (smaller g h) h d (smaller_r g h))
    (⊎_elim (λ e. inl (upto_up g (smaller g h) d (rw e (omega arith)))) (λ e. inr (upto_up h (smaller g h) d (rw e (omega arith)))) (smaller_one g h)))
