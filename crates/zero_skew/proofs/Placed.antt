-- A node that is placed nearest to its parent is in its own segment, and no further away than its wire is long.
use mathlib.Core.Path.{◌≡◌, refl}
use mathlib.Core.List.Memᴰ
use mathlib.Core.List.{List, [], ◌∷◌, Memᴰ}
use Prim.Native.Nat.{ℕ, ◌+◌, ◌-◌, ◌*◌, ◌≤◌}
use native.Mathlib.Omega.{arith}
use lib.IntN.{ℤ, pos, ◌+ℤ◌, ◌-ℤ◌, nat_abs}
use Rattle.zero_skew.specs.Plane.{Sinks, u, v, dist, twice, quarters}
use Rattle.zero_skew.specs.Box.{high, low, width, diameter}
use Rattle.zero_skew.specs.Segment.{from, upto, placed}
use Rattle.zero_skew.specs.Tree.{top}
use Rattle.zero_skew.specs.Order.{Order, one, both, sinks_of, embed}
use Rattle.zero_skew.specs.Region.{In, Inside}
use Rattle.zero_skew.specs.DeferredMerge.{range, segment}
use Rattle.zero_skew.proofs.Whole.{up, down, ◌⊑◌, add_is, minus_is, abs-minus, to_le, of_le, nearest_in, nearest_gap, quarters_near}
use Rattle.zero_skew.proofs.Lemma1.{greatest_within, least_within, diam_met, diam_within}
use Rattle.zero_skew.proofs.Distance.{dist_self}

-- the ends of a segment, by naturals
pub from_is : (h : ℤ) (d : ℕ) → up (twice h -ℤ pos d) + (2 * down h + d) ≡ down (twice h -ℤ pos d) + 2 * up h
from_is h d = omega (arith, add_is h h, minus_is (twice h) (pos d))

pub upto_is : (h : ℤ) (d : ℕ) → up (twice h +ℤ pos d) + 2 * down h ≡ down (twice h +ℤ pos d) + (2 * up h + d)
upto_is h d = omega (arith, add_is h h, add_is (twice h) (pos d))

module _ (s : Sinks) where
  -- ---- the segment
  pub wide_u : (l : List ℕ) → width s (u s) l ≤ diameter s l
  unfolding diameter
  wide_u l = omega arith

  pub wide_v : (l : List ℕ) → width s (v s) l ≤ diameter s l
  unfolding diameter
  wide_v l = omega arith

  -- a segment is not empty, since the box is no wider than the diameter
  pub some_along : (c : ℕ → ℤ) (l : List ℕ) → width s c l ≤ diameter s l → from s c l ⊑ upto s c l
  some_along c l w =
      omega (arith, rw (abs-minus (high s c l) (low s c l)) at w, from_is (high s c l) (diameter s l), upto_is (low s c l) (diameter s l))

  placed_along : (c : ℕ → ℤ) (l : List ℕ) (z : ℤ) → width s c l ≤ diameter s l → In (range s c l) (placed s c l z)
  placed_along c l z w =
      let (p, q) = nearest_in (from s c l) (upto s c l) z (some_along c l w) in
      record { from_lo = to_le _ _ p; upto_hi = to_le _ _ q }

  pub placed_inside : (l : List ℕ) (U V' : ℤ) → Inside (segment s l) (placed s (u s) l U) (placed s (v s) l V')
  placed_inside l U V' = record { by_u = placed_along (u s) l U (wide_u l); by_v = placed_along (v s) l V' (wide_v l) }

  pub root_inside : (l : List ℕ) → Inside (segment s l) (from s (u s) l) (from s (v s) l)
  root_inside l = record { by_u = lowest (u s) (wide_u l); by_v = lowest (v s) (wide_v l) }
    where
      lowest : (c : ℕ → ℤ) → width s c l ≤ diameter s l → In (range s c l) (from s c l)
      lowest c w = record { from_lo = to_le (from s c l) (from s c l) (omega arith); upto_hi = to_le _ _ (some_along c l w) }

  -- ---- the way to the parent
  -- along one axis, a node is no further from its parent than the difference of their diameters
  step : (c : ℕ → ℤ) (i : ℕ) (l m : List ℕ) (z : ℤ) → ((j : ℕ) → Memᴰ j (i ∷ l) → Memᴰ j m) → In (range s c m) z → nat_abs (z -ℤ placed s c (i ∷ l) z) ≤ diameter s m - diameter s (i ∷ l)
  step c i l m z below on =
      nearest_gap (from s c (i ∷ l)) (upto s c (i ∷ l)) z (diameter s m - diameter s (i ∷ l))
      (omega (arith, of_le (from s c m) z on.from_lo, diam_within s (i ∷ l) m below, greatest_within (λ j. c j +ℤ pos (s.wait j)) i l m below, from_is (high s c (i ∷ l)) (diameter s (i ∷ l)), from_is (high s c m) (diameter s m)))
      (omega (arith, of_le z (upto s c m) on.upto_hi, diam_within s (i ∷ l) m below, least_within (λ j. c j -ℤ pos (s.wait j)) i l m below, upto_is (low s c (i ∷ l)) (diameter s (i ∷ l)), upto_is (low s c m) (diameter s m)))

  near_segment : (l m : List ℕ) (i : ℕ) (U V' : ℤ) → Memᴰ i l → ((j : ℕ) → Memᴰ j l → Memᴰ j m) → Inside (segment s m) U V' → dist (quarters U V') (quarters (placed s (u s) l U) (placed s (v s) l V')) ≤ 2 * (diameter s m - diameter s l)
  near_segment [] m i U V' some below on = elim some [ ]
  near_segment (h ∷ l) m i U V' some below on =
      quarters_near U (placed s (u s) (h ∷ l) U) V' (placed s (v s) (h ∷ l) V') (diameter s m - diameter s (h ∷ l))
      (step (u s) h l m U below on.by_u) (step (v s) h l m V' below on.by_v)

  -- ---- nodes of an order
  pub diam_one : (i : ℕ) → diameter s (i ∷ []) ≡ 2 * s.wait i
  diam_one i =
      let (a, b, ma, mb, e) = diam_met s i [] in
      rw (e, Memᴰ.eq_of_singleton ma, Memᴰ.eq_of_singleton mb) (omega (arith, dist_self (s.at i)))

  pub some_of : (o : Order) → (i : ℕ) × Memᴰ i (sinks_of o)
  unfolding sinks_of
  some_of (one i) = (i, Memᴰ.head refl)
  some_of (both l r) = let (i, m) = some_of l in (i, Memᴰ.append_left (sinks_of r) m)

  embed_top : (o : Order) (U V' : ℤ) → top (embed s o U V') ≡ quarters U V'
  unfolding embed
  embed_top (one i) U V' = refl
  embed_top (both l r) U V' = refl

  -- THE WIRE of a node to its parent over the sinks m, in quarters, is no shorter than the way
  pub near_parent : (o : Order) (m : List ℕ) (U V' : ℤ) → ((j : ℕ) → Memᴰ j (sinks_of o) → Memᴰ j m) → Inside (segment s m) U V' → dist (quarters U V') (top (embed s o (placed s (u s) (sinks_of o) U) (placed s (v s) (sinks_of o) V'))) ≤ 2 * (diameter s m - diameter s (sinks_of o))
  near_parent o m U V' below on =
      let (i, some) = some_of o in
      rw (embed_top o (placed s (u s) (sinks_of o) U) (placed s (v s) (sinks_of o) V')) (near_segment (sinks_of o) m i U V' some below on)
