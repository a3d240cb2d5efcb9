-- A box that covers its sinks: of one sink, and of two sets together; its diameter, and its numbers with sign.
use mathlib.Core.Path.{◌≡◌}
use mathlib.Core.List.{List, [], ◌∷◌, ◌++◌}
use Prim.Native.Nat.{ℕ, ◌+◌, ◌-◌, ◌*◌, ◌<◌}
use native.Mathlib.Omega.{arith}
use lib.IntN.{ℤ, pos, ◌+ℤ◌, ◌-ℤ◌}
use lib.ListN.{length, get_or}
use Rattle.lists.specs.Grow.{up_to}
use Rattle.lists.proofs.Grow.{length-up_to, up_to_more}
use Rattle.zero_skew.specs.Plane.{Sinks, u, v}
use Rattle.zero_skew.specs.Box.{greatest, least, high, low, box_of, diameter}
use Rattle.zero_skew.proofs.Whole.{add_is, minus_is}
use Rattle.zero_skew.proofs.Hull.{high_is, low_is}
use Rattle.measures.specs.declared.boxes.Box.{Box}
use Rattle.measures.specs.Range.{Central, Brief}
use Rattle.measures.specs.Measures.{Lifts, lift}
use Rattle.measures.specs.Boxes.{sink_box, hull_of, diam_of}
use Rattle.plane.specs.Sinks.{sinks_at}
use Rattle.measures.specs.Covers.{Covers}
use Rattle.plane.specs.Bounds.{bounds}
use Rattle.measures.proofs.Numbers.{lifted, lift_range}
use Rattle.measures.proofs.Fairness.{fair-hull, fair-sink}
use Rattle.measures.proofs.Lifted.{lifts, lift_of, lift_larger, lift_smaller, lift_plus, lift_minus, lift_apart, unlift}

-- ---- one sink
sum_lifts : (x y : ℤ) → Central x → Central y → Lifts 64000000 (x +ℤ y) (lift x + lift y)
sum_lifts x y a b =
    lift_of 64000000 (x +ℤ y) (lift x + lift y)
    (omega (arith, add_is x y, lifts 32000000 x (lift x) (lifted x a), lifts 32000000 y (lift y) (lifted y b)))

minus_lifts : (x y : ℤ) → Central x → Central y → Lifts 64000000 (x -ℤ y) ((64000000 + lift x) - lift y)
minus_lifts x y a b =
    lift_of 64000000 (x -ℤ y) ((64000000 + lift x) - lift y)
    (omega (arith, minus_is x y, lift_range y b, lifts 32000000 x (lift x) (lifted x a), lifts 32000000 y (lift y) (lifted y b)))

-- to either side of u and of v
module _ (x y : ℤ) (w : ℕ) (a : Central x) (b : Central y) (h : Brief w) where
  pub least_u_lifts : Lifts 64000000 ((x +ℤ y) -ℤ pos w) (lift x + lift y - w)
  least_u_lifts = lift_minus 64000000 (x +ℤ y) (lift x + lift y) w (omega (arith, lift_range x a)) (sum_lifts x y a b)

  pub most_u_lifts : Lifts 64000000 ((x +ℤ y) +ℤ pos w) (lift x + lift y + w)
  most_u_lifts = lift_plus 64000000 (x +ℤ y) (lift x + lift y) w (sum_lifts x y a b)

  pub least_v_lifts : Lifts 64000000 ((x -ℤ y) -ℤ pos w) ((64000000 + lift x) - lift y - w)
  least_v_lifts = lift_minus 64000000 (x -ℤ y) ((64000000 + lift x) - lift y) w (omega (arith, lift_range y b)) (minus_lifts x y a b)

  pub most_v_lifts : Lifts 64000000 ((x -ℤ y) +ℤ pos w) ((64000000 + lift x) - lift y + w)
  most_v_lifts = lift_plus 64000000 (x -ℤ y) ((64000000 + lift x) - lift y) w (minus_lifts x y a b)

pub covers_sink : (xs ys : List ℤ) (delays : List ℕ) (i : ℕ) → Central (get_or xs i (pos 0)) → Central (get_or ys i (pos 0)) → Brief (get_or delays i 0)
    → Covers (sinks_at xs ys delays) (i ∷ []) (sink_box (get_or xs i (pos 0)) (get_or ys i (pos 0)) (get_or delays i 0))
unfolding greatest least
covers_sink xs ys delays i a b e =
    let x = get_or xs i (pos 0) in
    let y = get_or ys i (pos 0) in
    let w = get_or delays i 0 in
    record {
      least_u = least_u_lifts x y w a b e;
      most_u = most_u_lifts x y w a b e;
      least_v = least_v_lifts x y w a b e;
      most_v = most_v_lifts x y w a b e;
      fair = fair-sink x y w a b e;
    }

module _ (s : Sinks) where
  -- two sets together
  pub covers_hull : (l m : List ℕ) (a b : Box) → 0 < length l → 0 < length m → Covers s l a → Covers s m b → Covers s (l ++ m) (hull_of a b)
  covers_hull [] m a b h g p q = absurd (omega arith)
  covers_hull (i ∷ l) [] a b h g p q = absurd (omega arith)
  covers_hull (i ∷ l) (j ∷ m) a b h g p q =
      record {
        least_u = rw (← low_is s i l j m (u s)) (lift_smaller 64000000 (low s (u s) (i ∷ l)) (low s (u s) (j ∷ m)) a.lu.0 b.lu.0 p.least_u q.least_u);
        most_u = rw (← high_is s i l j m (u s)) (lift_larger 64000000 (high s (u s) (i ∷ l)) (high s (u s) (j ∷ m)) a.hu.0 b.hu.0 p.most_u q.most_u);
        least_v = rw (← low_is s i l j m (v s)) (lift_smaller 64000000 (low s (v s) (i ∷ l)) (low s (v s) (j ∷ m)) a.lv.0 b.lv.0 p.least_v q.least_v);
        most_v = rw (← high_is s i l j m (v s)) (lift_larger 64000000 (high s (v s) (i ∷ l)) (high s (v s) (j ∷ m)) a.hv.0 b.hv.0 p.most_v q.most_v);
        fair = fair-hull p.fair q.fair;
      }

  -- the box of one sink reaches as far as its delay to either side
  pub own_box : (k : ℕ) (b : Box) → Covers s (k ∷ []) b → (b.hu.0 ≡ b.lu.0 + 2 * s.wait k) × (b.hv.0 ≡ b.lv.0 + 2 * s.wait k)
  unfolding greatest least
  own_box k b p = (
    omega (
      arith,
      lifts 64000000 (u s k -ℤ pos (s.wait k)) b.lu.0 p.least_u,
      lifts 64000000 (u s k +ℤ pos (s.wait k)) b.hu.0 p.most_u,
      minus_is (u s k) (pos (s.wait k)),
      add_is (u s k) (pos (s.wait k)),
    ),
    omega (
      arith,
      lifts 64000000 (v s k -ℤ pos (s.wait k)) b.lv.0 p.least_v,
      lifts 64000000 (v s k +ℤ pos (s.wait k)) b.hv.0 p.most_v,
      minus_is (v s k) (pos (s.wait k)),
      add_is (v s k) (pos (s.wait k)),
    ),
  )

  pub own_diam : (k : ℕ) (b : Box) → Covers s (k ∷ []) b → diam_of b ≡ 2 * s.wait k
  unfolding diam_of
  own_diam k b p = let (e, f) = own_box k b p in omega arith

  -- the first sinks, and one more
  pub covers_more : (k : ℕ) {a b : Box} → 0 < k → Covers s (up_to k) a → Covers s (k ∷ []) b → Covers s (up_to (k + 1)) (hull_of a b)
  covers_more k {a} {b} h p q = rw (up_to_more k) (covers_hull (up_to k) (k ∷ []) a b (rw (length-up_to k) h) (omega arith) p q)

  -- the code's diameter is document 01's
  pub covers_diam : (l : List ℕ) (b : Box) → Covers s l b → diam_of b ≡ diameter s l
  unfolding diam_of diameter
  covers_diam l b p =
      rw (
        lift_apart 64000000 (high s (u s) l) (low s (u s) l) b.hu.0 b.lu.0 p.most_u p.least_u,
        lift_apart 64000000 (high s (v s) l) (low s (v s) l) b.hv.0 b.lv.0 p.most_v p.least_v,
      )

  -- the code's box is document 01's
  pub covers_box : (l : List ℕ) (b : Box) → Covers s l b → bounds b ≡ box_of s l
  covers_box l b p = λ k. record {
    least_u = unlift 64000000 (low s (u s) l) b.lu.0 p.least_u k;
    greatest_u = unlift 64000000 (high s (u s) l) b.hu.0 p.most_u k;
    least_v = unlift 64000000 (low s (v s) l) b.lv.0 p.least_v k;
    greatest_v = unlift 64000000 (high s (v s) l) b.hv.0 p.most_v k;
  }

-- the boxes of one sink with its delay and without: the one begins by the delay before the other
pub moved_by : (xs ys : List ℤ) (delays : List ℕ) (k : ℕ) (b o : Box) → Covers (sinks_at xs ys delays) (k ∷ []) b → Covers (sinks_at xs ys []) (k ∷ []) o
    → (b.lu.0 + get_or delays k 0 ≡ o.lu.0) × (b.lv.0 + get_or delays k 0 ≡ o.lv.0)
unfolding greatest least
moved_by xs ys delays k b o p q =
    let s = sinks_at xs ys delays in
    let w = get_or delays k 0 in (
      omega (
        arith,
        lifts 64000000 (u s k -ℤ pos w) b.lu.0 p.least_u,
        lifts 64000000 (u s k -ℤ pos 0) o.lu.0 q.least_u,
        minus_is (u s k) (pos w),
        minus_is (u s k) (pos 0),
      ),
      omega (
        arith,
        lifts 64000000 (v s k -ℤ pos w) b.lv.0 p.least_v,
        lifts 64000000 (v s k -ℤ pos 0) o.lv.0 q.least_v,
        minus_is (v s k) (pos w),
        minus_is (v s k) (pos 0),
      ),
    )
