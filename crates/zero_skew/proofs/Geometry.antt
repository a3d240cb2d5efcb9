-- The regions' operations are what their names say: `trr` holds the places within a radius of its core, `◌∩◌` the places of both, `distance` is the least distance
-- of two places, and two wires together reach across exactly where the two regions that they give meet.
use mathlib.Core.Path.{ap}
use mathlib.Core.Logic.{⊎_elim}
use Prim.Native.Nat.{ℕ, ◌+◌, ◌≤◌, max}
use native.Mathlib.Nat.{max-le}
use native.Mathlib.Omega.{arith}
use lib.IntN.{ℤ, pos, ◌-ℤ◌, nat_abs}
use lib.Signed.{◌≤ℤ◌}
use Rattle.zero_skew.specs.Plane.{away}
use Rattle.zero_skew.specs.Box.{larger, smaller}
use Rattle.zero_skew.specs.Segment.{nearest}
use Rattle.zero_skew.specs.Region.{Range, Region, In, Inside, grown, trr, common, ◌∩◌, beyond, between, distance, Some}
use Rattle.zero_skew.proofs.Whole.{up, down, ◌⊑◌, add_is, minus_is, abs-minus, to_le, of_le, larger_l, larger_r, larger_one, smaller_l, smaller_r, smaller_one, nearest_in, nearest_gap}
use Rattle.zero_skew.proofs.Region.{beyond_over, beyond_under}

pub in_of : (r : Range) (z : ℤ) → r.lo ⊑ z → z ⊑ r.hi → In r z
in_of r z p q = record { from_lo = to_le r.lo z p; upto_hi = to_le z r.hi q }

pub in_lo : {r : Range} {z : ℤ} → In r z → r.lo ⊑ z
in_lo {r} {z} h = of_le r.lo z h.from_lo

pub in_hi : {r : Range} {z : ℤ} → In r z → z ⊑ r.hi
in_hi {r} {z} h = of_le z r.hi h.upto_hi

-- ---- along one axis
grown_of : (n : ℕ) (r : Range) (y z : ℤ) → In r y → nat_abs (z -ℤ y) ≤ n → In (grown n r) z
grown_of n r y z h w =
    let g = rw (abs-minus z y) at w in
    in_of (grown n r) z (omega (arith, g, in_lo h, minus_is r.lo (pos n))) (omega (arith, g, in_hi h, add_is r.hi (pos n)))

grown_in : (n : ℕ) (r : Range) (z : ℤ) → r.lo ≤ℤ r.hi → In (grown n r) z → In r (nearest r.lo r.hi z) × (nat_abs (z -ℤ nearest r.lo r.hi z) ≤ n)
grown_in n r z some h =
    let (p, q) = nearest_in r.lo r.hi z (of_le r.lo r.hi some) in (
      in_of r _ p q,
      nearest_gap r.lo r.hi z n (omega (arith, in_lo h, minus_is r.lo (pos n))) (omega (arith, in_hi h, add_is r.hi (pos n))),
    )

common_of : (r t : Range) (z : ℤ) → In r z → In t z → In (common r t) z
common_of r t z h k = in_of (common r t) z
    (⊎_elim (λ e. rw e (in_lo h)) (λ e. rw e (in_lo k)) (larger_one r.lo t.lo))
    (⊎_elim (λ e. rw e (in_hi h)) (λ e. rw e (in_hi k)) (smaller_one r.hi t.hi))

common_in : (r t : Range) (z : ℤ) → In (common r t) z → In r z × In t z
common_in r t z h = (
  in_of r z (omega (arith, in_lo h, larger_l r.lo t.lo)) (omega (arith, in_hi h, smaller_l r.hi t.hi)),
  in_of t z (omega (arith, in_lo h, larger_r r.lo t.lo)) (omega (arith, in_hi h, smaller_r r.hi t.hi)),
)

between_under : (r t : Range) (y z : ℤ) → In r y → In t z → between r t ≤ nat_abs (y -ℤ z)
unfolding between
between_under r t y z h k = rw (abs-minus y z)
    (max-le
    (beyond_under r.hi t.lo _ (omega (arith, in_hi h, in_lo k)))
    (beyond_under t.hi r.lo _ (omega (arith, in_lo h, in_hi k))))

-- the value of r nearest to the start of t, and the value of t nearest to that
abbrev one_end : Range → Range → ℤ
one_end r t = nearest r.lo r.hi t.lo

abbrev other_end : Range → Range → ℤ
other_end r t = nearest t.lo t.hi (one_end r t)

between_met : (r t : Range) → r.lo ≤ℤ r.hi → t.lo ≤ℤ t.hi → In r (one_end r t) × In t (other_end r t) × (nat_abs (one_end r t -ℤ other_end r t) ≤ between r t)
unfolding between
between_met r t some-r some-t =
    let (p, q) = nearest_in r.lo r.hi t.lo (of_le r.lo r.hi some-r) in
    let (p', q') = nearest_in t.lo t.hi (one_end r t) (of_le t.lo t.hi some-t) in
    (in_of r _ p q, in_of t _ p' q', nearest_gap t.lo t.hi (one_end r t) _ under over)
  where
    under : up t.lo + down (one_end r t) ≤ (up (one_end r t) + down t.lo) + max (beyond r.hi t.lo) (beyond t.hi r.lo)
    under = ⊎_elim
        (λ e. omega (arith, ap up e, ap down e, larger_r r.lo (smaller r.hi t.lo), beyond_over r.hi t.lo))
        (λ e. omega (arith, ap up e, ap down e, larger_r r.lo (smaller r.hi t.lo)))
        (smaller_one r.hi t.lo)

    over : up (one_end r t) + down t.hi ≤ (up t.hi + down (one_end r t)) + max (beyond r.hi t.lo) (beyond t.hi r.lo)
    over = ⊎_elim
        (λ e. omega (arith, ap up e, ap down e, beyond_over t.hi r.lo))
        (λ e. omega (arith, ap up e, ap down e, smaller_r r.hi t.lo, of_le t.lo t.hi some-t))
        (larger_one r.lo (smaller r.hi t.lo))

-- ---- in the plane
max_l : (m n k : ℕ) → max m n ≤ k → m ≤ k
max_l m n k h = omega arith

max_r : (m n k : ℕ) → max m n ≤ k → n ≤ k
max_r m n k h = omega arith

-- THE TRR of a core and a radius: the places within the radius of some place of the core
pub trr_of : (n : ℕ) (a : Region) (U V' U₂ V₂ : ℤ) → Inside a U₂ V₂ → away U V' U₂ V₂ ≤ n → Inside (trr n a) U V'
trr_of n a U V' U₂ V₂ h w = record {
  by_u = grown_of n a.along_u U₂ U h.by_u (max_l _ _ n w);
  by_v = grown_of n a.along_v V₂ V' h.by_v (max_r _ _ n w);
}

pub trr_in : (n : ℕ) (a : Region) (U V' : ℤ) → Some a → Inside (trr n a) U V' → (U₂ : ℤ) × (V₂ : ℤ) × Inside a U₂ V₂ × (away U V' U₂ V₂ ≤ n)
trr_in n a U V' some h =
    let (p, q) = grown_in n a.along_u U some.some_u h.by_u in
    let (p', q') = grown_in n a.along_v V' some.some_v h.by_v in
    (_, _, record { by_u = p; by_v = p' }, max-le q q')

-- WHAT TWO REGIONS HAVE IN COMMON
pub ∩_of : (a b : Region) (U V' : ℤ) → Inside a U V' → Inside b U V' → Inside (a ∩ b) U V'
∩_of a b U V' h k = record { by_u = common_of a.along_u b.along_u U h.by_u k.by_u; by_v = common_of a.along_v b.along_v V' h.by_v k.by_v }

pub ∩_in : (a b : Region) (U V' : ℤ) → Inside (a ∩ b) U V' → Inside a U V' × Inside b U V'
∩_in a b U V' h =
    let (p, q) = common_in a.along_u b.along_u U h.by_u in
    let (p', q') = common_in a.along_v b.along_v V' h.by_v in
    (record { by_u = p; by_v = p' }, record { by_u = q; by_v = q' })

-- THE DISTANCE of two regions is the least distance of their places
pub distance_under : (a b : Region) (U V' U₂ V₂ : ℤ) → Inside a U V' → Inside b U₂ V₂ → distance a b ≤ away U V' U₂ V₂
unfolding distance
distance_under a b U V' U₂ V₂ h k =
    omega (arith, between_under a.along_u b.along_u U U₂ h.by_u k.by_u, between_under a.along_v b.along_v V' V₂ h.by_v k.by_v)

pub distance_met : (a b : Region) → Some a → Some b → (U : ℤ) × (V' : ℤ) × (U₂ : ℤ) × (V₂ : ℤ) × Inside a U V' × Inside b U₂ V₂ × (away U V' U₂ V₂ ≤ distance a b)
unfolding distance
distance_met a b some-a some-b =
    let (p, q, w) = between_met a.along_u b.along_u some-a.some_u some-b.some_u in
    let (p', q', w') = between_met a.along_v b.along_v some-a.some_v some-b.some_v in
    (_, _, _, _, record { by_u = p; by_v = p' }, record { by_u = q; by_v = q' }, omega arith)

-- TWO WIRES reach across exactly where some place is within the one of the one region and within the other of the other
meet_of : (n m : ℕ) (r t : Range) → r.lo ≤ℤ r.hi → t.lo ≤ℤ t.hi → between r t ≤ n + m → In (common (grown n r) (grown m t)) (larger (r.lo -ℤ pos n) (t.lo -ℤ pos m))
unfolding between
meet_of n m r t some-r some-t w = common_of (grown n r) (grown m t) z
    (in_of (grown n r) z (larger_l (r.lo -ℤ pos n) (t.lo -ℤ pos m))
    (⊎_elim
    (λ e. omega (arith, ap up e, ap down e, minus_is r.lo (pos n), add_is r.hi (pos n), of_le r.lo r.hi some-r))
    (λ e. omega (arith, ap up e, ap down e, minus_is t.lo (pos m), add_is r.hi (pos n), beyond_over r.hi t.lo))
    (larger_one (r.lo -ℤ pos n) (t.lo -ℤ pos m))))
    (in_of (grown m t) z (larger_r (r.lo -ℤ pos n) (t.lo -ℤ pos m))
    (⊎_elim
    (λ e. omega (arith, ap up e, ap down e, minus_is r.lo (pos n), add_is t.hi (pos m), beyond_over t.hi r.lo))
    (λ e. omega (arith, ap up e, ap down e, minus_is t.lo (pos m), add_is t.hi (pos m), of_le t.lo t.hi some-t))
    (larger_one (r.lo -ℤ pos n) (t.lo -ℤ pos m))))
  where
    z : ℤ
    z = larger (r.lo -ℤ pos n) (t.lo -ℤ pos m)

meet_in : (n m : ℕ) (r t : Range) (z : ℤ) → In (common (grown n r) (grown m t)) z → between r t ≤ n + m
unfolding between
meet_in n m r t z h =
    let (p, q) = common_in (grown n r) (grown m t) z h in
    max-le
    (beyond_under r.hi t.lo _ (omega (arith, in_hi p, in_lo q, add_is r.hi (pos n), minus_is t.lo (pos m))))
    (beyond_under t.hi r.lo _ (omega (arith, in_lo p, in_hi q, add_is t.hi (pos m), minus_is r.lo (pos n))))

pub reached_of : (a b : Region) (e f : ℕ) → Some a → Some b → distance a b ≤ e + f → (U : ℤ) × (V' : ℤ) × Inside (trr e a ∩ trr f b) U V'
unfolding distance
reached_of a b e f some-a some-b w = (
  _,
  _,
  record {
    by_u = meet_of e f a.along_u b.along_u some-a.some_u some-b.some_u (omega arith);
    by_v = meet_of e f a.along_v b.along_v some-a.some_v some-b.some_v (omega arith);
  },
)

pub reached_in : (a b : Region) (e f : ℕ) (U V' : ℤ) → Inside (trr e a ∩ trr f b) U V' → distance a b ≤ e + f
unfolding distance
reached_in a b e f U V' h = max-le (meet_in e f a.along_u b.along_u U h.by_u) (meet_in e f a.along_v b.along_v V' h.by_v)
