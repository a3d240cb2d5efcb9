-- Regions that are counted in finer units: the top-down phase is never stuck, at whatever fineness.
use mathlib.Core.Path.{◌≡◌, ap}
use Prim.Native.Nat.{ℕ, ◌+◌, ◌*◌, ◌≤◌}
use native.Mathlib.Nat.{mul-add, mul-le-mul_left}
use native.Mathlib.Omega.{arith}
use lib.IntN.{ℤ, pos, ◌+ℤ◌, ◌-ℤ◌, ◌*ℤ◌}
use lib.Signed.{◌≤ℤ◌}
use Rattle.zero_skew.specs.Plane.{Sinks, away}
use Rattle.zero_skew.specs.Box.{larger, smaller}
use Rattle.zero_skew.specs.Region.{Range, Region, In, Inside, fine, finer, grown, trr, common, ◌∩◌, Some}
use Rattle.zero_skew.specs.DeferredMerge.{Segments, merge, ms, BottomUp}
use Rattle.zero_skew.proofs.Whole.{up, down, ◌⊑◌, add_is, minus_is, times_up, times_down, to_le, of_le, larger_l, larger_r, smaller_l, smaller_r}
use Rattle.zero_skew.proofs.Geometry.{in_of, in_lo, in_hi, trr_in}
use Rattle.zero_skew.proofs.Arcs.{arc_is}

spread : (k p q r t w x : ℕ) → p + (q + r) ≡ t + (w + x) → k * p + (k * q + k * r) ≡ k * t + (k * w + k * x)
spread k p q r t w x h = omega (arith, mul-add k p (q + r), mul-add k q r, mul-add k t (w + x), mul-add k w x, ap (λ n. k * n) h)

pub times_add : (k : ℕ) (a b : ℤ) → up (pos k *ℤ (a +ℤ b)) + (down (pos k *ℤ a) + down (pos k *ℤ b)) ≡ down (pos k *ℤ (a +ℤ b)) + (up (pos k *ℤ a) + up (pos k *ℤ b))
times_add k a b = rw (times_up k (a +ℤ b), times_down k (a +ℤ b), times_up k a, times_down k a, times_up k b, times_down k b) (spread k _ _ _ _ _ _ (add_is a b))

pub times_minus : (k : ℕ) (a b : ℤ) → up (pos k *ℤ (a -ℤ b)) + (down (pos k *ℤ a) + up (pos k *ℤ b)) ≡ down (pos k *ℤ (a -ℤ b)) + (up (pos k *ℤ a) + down (pos k *ℤ b))
times_minus k a b = rw (times_up k (a -ℤ b), times_down k (a -ℤ b), times_up k a, times_down k a, times_up k b, times_down k b) (spread k _ _ _ _ _ _ (minus_is a b))

times_up_to : (k : ℕ) (a b : ℤ) → a ⊑ b → pos k *ℤ a ⊑ pos k *ℤ b
times_up_to k a b h = rw (times_up k a, times_down k a, times_up k b, times_down k b) (omega (arith, mul-le-mul_left k h, mul-add k (up a) (down b), mul-add k (up b) (down a)))

fine_common : (k : ℕ) (r t : Range) (z : ℤ) → In (fine k (common r t)) z → In (fine k r) z × In (fine k t) z
fine_common k r t z h = (
  in_of (fine k r) z (omega (arith, in_lo h, times_up_to k r.lo (larger r.lo t.lo) (larger_l r.lo t.lo))) (omega (arith, in_hi h, times_up_to k (smaller r.hi t.hi) r.hi (smaller_l r.hi t.hi))),
  in_of (fine k t) z (omega (arith, in_lo h, times_up_to k t.lo (larger r.lo t.lo) (larger_r r.lo t.lo))) (omega (arith, in_hi h, times_up_to k (smaller r.hi t.hi) t.hi (smaller_r r.hi t.hi))),
)

fine_grown : (k n : ℕ) (r : Range) (z : ℤ) → In (fine k (grown n r)) z → In (grown (k * n) (fine k r)) z
fine_grown k n r z h =
    in_of (grown (k * n) (fine k r)) z
    (omega (arith, in_lo h, times_minus k r.lo (pos n), minus_is (pos k *ℤ r.lo) (pos (k * n))))
    (omega (arith, in_hi h, times_add k r.hi (pos n), add_is (pos k *ℤ r.hi) (pos (k * n))))

fine_some : (k : ℕ) (r : Range) → r.lo ≤ℤ r.hi → (pos k *ℤ r.lo) ≤ℤ (pos k *ℤ r.hi)
fine_some k r some = to_le _ _ (times_up_to k r.lo r.hi (of_le r.lo r.hi some))

finer_∩ : (k : ℕ) (a b : Region) (U V' : ℤ) → Inside (finer k (a ∩ b)) U V' → Inside (finer k a) U V' × Inside (finer k b) U V'
finer_∩ k a b U V' h =
    let (p, q) = fine_common k a.along_u b.along_u U h.by_u in
    let (p', q') = fine_common k a.along_v b.along_v V' h.by_v in
    (record { by_u = p; by_v = p' }, record { by_u = q; by_v = q' })

finer_in : (k n : ℕ) (a : Region) (U V' : ℤ) → Some a → Inside (finer k (trr n a)) U V' → (U₂ : ℤ) × (V₂ : ℤ) × Inside (finer k a) U₂ V₂ × (away U V' U₂ V₂ ≤ k * n)
finer_in k n a U V' some h =
    trr_in (k * n) (finer k a) U V'
    (record { some_u = fine_some k a.along_u some.some_u; some_v = fine_some k a.along_v some.some_v })
    (record { by_u = fine_grown k n a.along_u U h.by_u; by_v = fine_grown k n a.along_v V' h.by_v })

module _ (s : Sinks) where
  -- "so there must exist some l(v) satisfying this condition": wherever a node is in its segment, each child has a place in its own within its edge's length
  pub child_l : (k e : ℕ) (a : Segments) (f : ℕ) (b : Segments) → BottomUp s (merge e a f b) → (U V' : ℤ) → Inside (finer k (ms s (merge e a f b))) U V' → (U₂ : ℤ) × (V₂ : ℤ) × Inside (finer k (ms s a)) U₂ V₂ × (away U V' U₂ V₂ ≤ k * e)
  unfolding ms
  child_l k e a f b (ba, _, _) U V' h = finer_in k e (ms s a) U V' (arc_is s a ba).some (finer_∩ k (trr e (ms s a)) (trr f (ms s b)) U V' h).0

  pub child_r : (k e : ℕ) (a : Segments) (f : ℕ) (b : Segments) → BottomUp s (merge e a f b) → (U V' : ℤ) → Inside (finer k (ms s (merge e a f b))) U V' → (U₂ : ℤ) × (V₂ : ℤ) × Inside (finer k (ms s b)) U₂ V₂ × (away U V' U₂ V₂ ≤ k * f)
  unfolding ms
  child_r k e a f b (_, bb, _) U V' h = finer_in k f (ms s b) U V' (arc_is s b bb).some (finer_∩ k (trr e (ms s a)) (trr f (ms s b)) U V' h).1
