-- "By induction all merging segments are Manhattan arcs" (002, section I).
use mathlib.Core.Path.{◌≡◌}
use mathlib.Core.Logic.{◌⊎◌, inl, inr, ⊎_elim}
use mathlib.Core.List.{[], List, ◌∷◌, Memᴰ}
use Prim.Native.Nat.{ℕ}
use native.Mathlib.Omega.{arith}
use lib.IntN.{ℤ}
use Rattle.lists.proofs.Tests.{or_le}
use Rattle.zero_skew.specs.Plane.{Sinks, u, v}
use Rattle.zero_skew.specs.Box.{high, low, width, diameter}
use Rattle.zero_skew.specs.Segment.{from, upto}
use Rattle.zero_skew.specs.Order.{sinks_of}
use Rattle.zero_skew.specs.Region.{Arc}
use Rattle.zero_skew.specs.DeferredMerge.{Segments, topology, ms, BottomUp, segment}
use Rattle.zero_skew.proofs.Whole.{◌⊑◌, abs-minus, same, to_le}
use Rattle.zero_skew.proofs.Hull.{low_high}
use Rattle.zero_skew.proofs.Placed.{from_is, upto_is, wide_u, wide_v, some_along, some_of}
use Rattle.zero_skew.proofs.DeferredMerge.{ms_is}

module _ (s : Sinks) where
  thin_at : (c : ℕ → ℤ) (l : List ℕ) → low s c l ⊑ high s c l → width s c l ≡ diameter s l → from s c l ≡ upto s c l
  thin_at c l lh w = same _ _ (omega (arith, abs-minus (high s c l) (low s c l), from_is (high s c l) (diameter s l), upto_is (low s c l) (diameter s l)))

  thin_one : (i : ℕ) (l : List ℕ) → (width s (u s) (i ∷ l) ≡ diameter s (i ∷ l)) ⊎ (width s (v s) (i ∷ l) ≡ diameter s (i ∷ l))
  unfolding diameter
  thin_one i l = ⊎_elim (λ p. inr (omega arith)) (λ p. inl (omega arith)) (or_le (width s (u s) (i ∷ l)) (width s (v s) (i ∷ l)))

  -- document 01: "One of the two ranges is a single value"
  pub single_value : (i : ℕ) (l : List ℕ) → (from s (u s) (i ∷ l) ≡ upto s (u s) (i ∷ l)) ⊎ (from s (v s) (i ∷ l) ≡ upto s (v s) (i ∷ l))
  single_value i l = ⊎_elim (λ w. inl (thin_at (u s) (i ∷ l) (low_high s (u s) i l) w)) (λ w. inr (thin_at (v s) (i ∷ l) (low_high s (v s) i l) w)) (thin_one i l)

  arc : (l : List ℕ) (i : ℕ) → Memᴰ i l → Arc (segment s l)
  arc [] i m = elim m [ ]
  arc (h ∷ l) i m = record {
    some = record { some_u = to_le _ _ (some_along s (u s) (h ∷ l) (wide_u s (h ∷ l))); some_v = to_le _ _ (some_along s (v s) (h ∷ l) (wide_v s (h ∷ l))) };
    thin = single_value h l;
  }

  pub arc_is : (t : Segments) → BottomUp s t → Arc (ms s t)
  arc_is t up = let (i, m) = some_of s (topology t) in rw (ms_is s t up) (arc (sinks_of (topology t)) i m)
