-- A held box by its numbers with sign: widening it is document 01's, and no two boxes have the same.
use mathlib.Core.Path.{◌≡◌, ap}
use mathlib.Core.Bool.{not, ◌&&◌}
use native.Mathlib.Omega.{arith}
use borrow.Author.Tests.{ltb-false}
use Rattle.std.specs.Prelude.{Ok}
use Rattle.lists.proofs.Tests.{and_both}
use Prim.Native.Nat.{ℕ, ◌+◌, ◌-◌, min, max}
use lib.IntN.{ℤ, pos, sub_ℕ, ◌+ℤ◌, ◌-ℤ◌}
use Rattle.zero_skew.specs.Box.{Bounds, larger, smaller, hull, across}
use Rattle.measures.specs.declared.boxes.Box.{Box}
use Rattle.measures.specs.Range.{in_range, late, Central, Brief}
use Rattle.measures.proofs.Numbers.{nearer}
use Rattle.measures.specs.Measures.{Lifts, lift}
use Rattle.measures.specs.Boxes.{sink_box, hull_of, diam_of}
use Rattle.plane.specs.Bounds.{bounds, sink_bounds, verdict, widened_by}
use Rattle.plane.specs.declared.refusal.Refusal.TheVariants.{Outside, Late}
use Rattle.plane.proofs.Checks.{passed, not-false}
use Rattle.measures.proofs.Lifted.{lift_larger, lift_smaller, lift_apart, unlift, lifts_back, unlift_once}
use Rattle.plane.proofs.Covering.{least_u_lifts, most_u_lifts, least_v_lifts, most_v_lifts}

module _ (c : ℕ) where
  least_is : (n m : ℕ) (z : ℤ) → Lifts c z m → sub_ℕ (min n m) c ≡ smaller (sub_ℕ n c) z
  least_is n m z p = unlift c (smaller (sub_ℕ n c) z) (min n m) (lift_smaller c (sub_ℕ n c) z n m (lifts_back c n) p)

  most_is : (n m : ℕ) (z : ℤ) → Lifts c z m → sub_ℕ (max n m) c ≡ larger (sub_ℕ n c) z
  most_is n m z p = unlift c (larger (sub_ℕ n c) z) (max n m) (lift_larger c (sub_ℕ n c) z n m (lifts_back c n) p)

-- a box with one more sink
pub hull-sink : (b : Box) (x y : ℤ) (w : ℕ) → Central x → Central y → Brief w → bounds (hull_of b (sink_box x y w)) ≡ hull (bounds b) (sink_bounds x y w)
hull-sink b x y w p q h = λ k. record {
  least_u = least_is 64000000 b.lu.0 (lift x + lift y - w) ((x +ℤ y) -ℤ pos w) (least_u_lifts x y w p q h) k;
  greatest_u = most_is 64000000 b.hu.0 (lift x + lift y + w) ((x +ℤ y) +ℤ pos w) (most_u_lifts x y w p q h) k;
  least_v = least_is 64000000 b.lv.0 ((64000000 + lift x) - lift y - w) ((x -ℤ y) -ℤ pos w) (least_v_lifts x y w p q h) k;
  greatest_v = most_is 64000000 b.hv.0 ((64000000 + lift x) - lift y + w) ((x -ℤ y) +ℤ pos w) (most_v_lifts x y w p q h) k;
}

-- and so where the sink is accepted
pub hull_accepted : (b : Box) (x y : ℤ) (w : ℕ) → verdict x y w ≡ Ok tt → bounds (hull_of b (sink_box x y w)) ≡ widened_by (bounds b) x y w
hull_accepted b x y w e =
    let p = passed (not (in_range x && in_range y)) (Outside 0) _ e in
    let q = passed (late w) (Late 0) _ p.1 in
    let (s, t) = and_both (in_range x) (in_range y) (not-false _ p.0) in
    let h = ltb-false 1000000 w q.0 in
    rw e (hull-sink b x y w (nearer x s) (nearer y t) (omega arith))

-- the diameter of any box
pub diam_is : (b : Box) → diam_of b ≡ across (bounds b)
unfolding diam_of
diam_is b =
    rw (
      lift_apart 64000000 (bounds b).greatest_u (bounds b).least_u b.hu.0 b.lu.0 (lifts_back 64000000 b.hu.0) (lifts_back 64000000 b.lu.0),
      lift_apart 64000000 (bounds b).greatest_v (bounds b).least_v b.hv.0 b.lv.0 (lifts_back 64000000 b.hv.0) (lifts_back 64000000 b.lv.0),
    )

-- a box is decided by its numbers with sign
pub bounds_once : (a b : Box) → bounds a ≡ bounds b → a ≡ b
bounds_once a b e =
    λ k. record { lu = record { 0 = lu_same k }; hu = record { 0 = hu_same k }; lv = record { 0 = lv_same k }; hv = record { 0 = hv_same k } }
  where
    lu_same : a.lu.0 ≡ b.lu.0
    lu_same = unlift_once 64000000 a.lu.0 b.lu.0 (ap (λ (s : Bounds). s.least_u) e)

    hu_same : a.hu.0 ≡ b.hu.0
    hu_same = unlift_once 64000000 a.hu.0 b.hu.0 (ap (λ (s : Bounds). s.greatest_u) e)

    lv_same : a.lv.0 ≡ b.lv.0
    lv_same = unlift_once 64000000 a.lv.0 b.lv.0 (ap (λ (s : Bounds). s.least_v) e)

    hv_same : a.hv.0 ≡ b.hv.0
    hv_same = unlift_once 64000000 a.hv.0 b.hv.0 (ap (λ (s : Bounds). s.greatest_v) e)
