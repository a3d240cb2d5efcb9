-- One join: the merging segments of two sets of sinks, how far they are apart, and the merging segment of the union.
use mathlib.Core.Path.{◌≡◌, sym, ◌∙◌, ap}
use mathlib.Core.Logic.{◌⊎◌, inl, inr, ⊎_elim}
use mathlib.Core.List.{List, ◌∷◌, ◌++◌}
use Prim.Native.Nat.{ℕ, ◌+◌, ◌-◌, ◌*◌, ◌≤◌, max}
use native.Mathlib.Nat.{max-le}
use native.Mathlib.Omega.{arith}
use lib.IntN.{ℤ, pos, ◌+ℤ◌, ◌-ℤ◌}
use Rattle.lists.proofs.Tests.{or_le}
use Rattle.zero_skew.specs.Plane.{Sinks, u, v, twice}
use Rattle.zero_skew.specs.Box.{larger, smaller, high, low, width, diameter}
use Rattle.zero_skew.specs.Segment.{from, upto}
use Rattle.zero_skew.specs.Region.{trr, ◌∩◌, beyond, between, distance}
use Rattle.zero_skew.specs.DeferredMerge.{range, segment}
use Rattle.zero_skew.proofs.Whole.{up, down, abs-minus, larger_l, larger_r, larger_one, smaller_l, smaller_r, smaller_one}
use Rattle.zero_skew.proofs.Hull.{low_high, high_is, low_is, under_l, under_r}
use Rattle.zero_skew.proofs.Placed.{from_is, upto_is, wide_u, wide_v}
use Rattle.zero_skew.proofs.Region.{beyond_over, beyond_under, lo_merged, hi_merged}

module _ (s : Sinks) where
  module _ (i : ℕ) (l : List ℕ) (j : ℕ) (m : List ℕ) where
    abbrev a : List ℕ
    a = i ∷ l

    abbrev b : List ℕ
    b = j ∷ m

    abbrev d : ℕ
    d = diameter s (a ++ b)

    -- an end of the union is an end of a part
    high_one : (c : ℕ → ℤ) (z : ℤ) → larger (high s c a) (high s c b) ≡ z → high s c (a ++ b) ≡ z
    high_one c z h = sym (high_is s i l j m c) ∙ h

    low_one : (c : ℕ → ℤ) (z : ℤ) → smaller (low s c a) (low s c b) ≡ z → low s c (a ++ b) ≡ z
    low_one c z h = sym (low_is s i l j m c) ∙ h

    -- THE MERGING SEGMENT, along one axis
    lo_is : (c : ℕ → ℤ) → larger (from s c a -ℤ pos (d - diameter s a)) (from s c b -ℤ pos (d - diameter s b)) ≡ from s c (a ++ b)
    lo_is c = lo_merged (high s c a) (high s c b) (diameter s a) (diameter s b) d (under_l s a b) (under_r s a b) ∙ ap (λ z. twice z -ℤ pos d) (high_is s i l j m c)

    hi_is : (c : ℕ → ℤ) → smaller (upto s c a +ℤ pos (d - diameter s a)) (upto s c b +ℤ pos (d - diameter s b)) ≡ upto s c (a ++ b)
    hi_is c = hi_merged (low s c a) (low s c b) (diameter s a) (diameter s b) d (under_l s a b) (under_r s a b) ∙ ap (λ z. twice z +ℤ pos d) (low_is s i l j m c)

    pub merged : trr (d - diameter s a) (segment s a) ∩ trr (d - diameter s b) (segment s b) ≡ segment s (a ++ b)
    merged = λ k. record {
      along_u = record { lo = lo_is (u s) k; hi = hi_is (u s) k };
      along_v = record { lo = lo_is (v s) k; hi = hi_is (v s) k };
    }

    -- ---- how far the two segments are apart
    near : (c : ℕ → ℤ) → width s c (a ++ b) ≤ d → between (range s c a) (range s c b) ≤ (d - diameter s a) + (d - diameter s b)
    unfolding between
    near c w =
        let h = rw (abs-minus (high s c (a ++ b)) (low s c (a ++ b))) at w in
        max-le
        (beyond_under (upto s c a) (from s c b) _
        (omega (arith, h, under_l s a b, under_r s a b, ap up (high_is s i l j m c), ap down (high_is s i l j m c), ap up (low_is s i l j m c), ap down (low_is s i l j m c), larger_r (high s c a) (high s c b), smaller_l (low s c a) (low s c b), upto_is (low s c a) (diameter s a), from_is (high s c b) (diameter s b))))
        (beyond_under (upto s c b) (from s c a) _
        (omega (arith, h, under_l s a b, under_r s a b, ap up (high_is s i l j m c), ap down (high_is s i l j m c), ap up (low_is s i l j m c), ap down (low_is s i l j m c), larger_l (high s c a) (high s c b), smaller_r (low s c a) (low s c b), upto_is (low s c b) (diameter s b), from_is (high s c a) (diameter s a))))

    -- the two wires reach from one to the other
    pub reach : distance (segment s a) (segment s b) ≤ (d - diameter s a) + (d - diameter s b)
    unfolding distance
    reach = omega (arith, near (u s) (wide_u s (a ++ b)), near (v s) (wide_v s (a ++ b)))

    abbrev Tight : ℕ → ℕ → Type 0
    Tight w g = (w ≤ diameter s a) ⊎ ((w ≤ diameter s b) ⊎ (2 * w ≤ g + (diameter s a + diameter s b)))

    -- the width of the union is a part's width, or spans the gap
    spans : (c : ℕ → ℤ) → width s c a ≤ diameter s a → width s c b ≤ diameter s b → Tight (width s c (a ++ b)) (between (range s c a) (range s c b))
    unfolding between
    spans c wa wb =
        ⊎_elim
        (λ h. ⊎_elim (λ o. inl (rw (high_one c (high s c a) h, low_one c (low s c a) o) wa)) (λ o. inr (inr (across_l h o))) (smaller_one (low s c a) (low s c b)))
        (λ h. ⊎_elim (λ o. inr (inr (across_r h o))) (λ o. inr (inl (rw (high_one c (high s c b) h, low_one c (low s c b) o) wb))) (smaller_one (low s c a) (low s c b)))
        (larger_one (high s c a) (high s c b))
      where
        across_l : larger (high s c a) (high s c b) ≡ high s c a → smaller (low s c a) (low s c b) ≡ low s c b → 2 * width s c (a ++ b) ≤ max (beyond (upto s c a) (from s c b)) (beyond (upto s c b) (from s c a)) + (diameter s a + diameter s b)
        across_l h o = rw (high_one c (high s c a) h, low_one c (low s c b) o, abs-minus (high s c a) (low s c b))
            (omega (arith, ap up o, ap down o, smaller_l (low s c a) (low s c b), low_high s c i l, beyond_over (upto s c b) (from s c a), upto_is (low s c b) (diameter s b), from_is (high s c a) (diameter s a)))

        across_r : larger (high s c a) (high s c b) ≡ high s c b → smaller (low s c a) (low s c b) ≡ low s c a → 2 * width s c (a ++ b) ≤ max (beyond (upto s c a) (from s c b)) (beyond (upto s c b) (from s c a)) + (diameter s a + diameter s b)
        across_r h o = rw (high_one c (high s c b) h, low_one c (low s c a) o, abs-minus (high s c b) (low s c a))
            (omega (arith, ap up o, ap down o, smaller_r (low s c a) (low s c b), low_high s c j m, beyond_over (upto s c a) (from s c b), upto_is (low s c a) (diameter s a), from_is (high s c b) (diameter s b)))

    eased : (w x g h : ℕ) → x ≤ w → g ≤ h → Tight w g → Tight x h
    eased w x g h p q (inl r) = inl (omega arith)
    eased w x g h p q (inr (inl r)) = inr (inl (omega arith))
    eased w x g h p q (inr (inr r)) = inr (inr (omega arith))

    -- the diameter of the union is no more than a part's, or than the way across asks
    pub tight : Tight d (distance (segment s a) (segment s b))
    unfolding diameter distance
    tight =
        ⊎_elim
        (λ p. eased _ _ _ _ (omega arith) (omega arith) (spans (v s) (wide_v s a) (wide_v s b)))
        (λ p. eased _ _ _ _ (omega arith) (omega arith) (spans (u s) (wide_u s a) (wide_u s b)))
        (or_le (width s (u s) (a ++ b)) (width s (v s) (a ++ b)))
