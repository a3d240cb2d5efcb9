-- Whatever the top-down phase chooses, the tree has no skew, its paths are the diameter of all the sinks, and its wire is document 01's total.
use mathlib.Core.Path.{◌≡◌, sym, ◌∙◌, ap}
use mathlib.Core.List.{Memᴰ}
use Prim.Native.Nat.{ℕ, ◌+◌, ◌*◌}
use native.Mathlib.Nat.{mul-zero, mul-add, mul_left_comm}
use native.Mathlib.Omega.{arith}
use lib.IntN.{ℤ, pos, ◌+ℤ◌, ◌-ℤ◌, ◌*ℤ◌}
use Rattle.zero_skew.specs.Plane.{Place, Sinks, u, v, scaled, twice}
use Rattle.zero_skew.specs.Box.{diameter}
use Rattle.zero_skew.specs.Tree.{Tree, leaf, join, leaves, wire, AtSinks, Reaches, arrivals, ZeroSkew}
use Rattle.zero_skew.specs.Order.{Order, one, both, sinks_of, sums, Over, halves}
use Rattle.zero_skew.specs.DeferredMerge.{Segments, sink, merge, topology, ms, path, BottomUp, At, TopDown, DME, wired}
use Rattle.zero_skew.proofs.Whole.{up, down, ◌⊑◌, add_is, minus_is, times_up, times_down, same, of_le}
use Rattle.zero_skew.proofs.Hull.{under_l, under_r}
use Rattle.zero_skew.proofs.Timed.{Hears, heard, unlevel}
use Rattle.zero_skew.proofs.Sums.{waits, waits_append, waits_all}
use Rattle.zero_skew.proofs.Placed.{diam_one}
use Rattle.zero_skew.proofs.DeferredMerge.{bottom_up_is, path_is}
use Rattle.zero_skew.proofs.Finer.{times_add, times_minus}

-- the length of all the edges
unfoldable cost : Segments → ℕ
cost (sink i) = 0
cost (merge e a f b) = (e + cost a) + (f + cost b)

-- a value that k times the doubled z bounds on both sides
pinned : (k : ℕ) (z w : ℤ) → pos k *ℤ twice z ⊑ pos 2 *ℤ w → pos 2 *ℤ w ⊑ pos k *ℤ twice z → w ≡ pos k *ℤ z
pinned k z w p q = same _ _ (omega (arith, times_add k z z, times_up 2 w, times_down 2 w))

module _ (s : Sinks) where
  -- ---- no skew
  at_sink : (k i : ℕ) (p : Place) → At k (ms s (sink i)) p → p ≡ scaled k (s.at i)
  unfolding ms
  at_sink k i p h = λ t. record { x = px t; y = py t }
    where
      sum_is : p.x +ℤ p.y ≡ pos k *ℤ u s i
      sum_is = pinned k (u s i) (p.x +ℤ p.y) (of_le _ _ h.by_u.from_lo) (of_le _ _ h.by_u.upto_hi)

      difference_is : p.x -ℤ p.y ≡ pos k *ℤ v s i
      difference_is = pinned k (v s i) (p.x -ℤ p.y) (of_le _ _ h.by_v.from_lo) (of_le _ _ h.by_v.upto_hi)

      px : p.x ≡ pos k *ℤ (s.at i).x
      px = same _ _ (omega (arith, ap up sum_is, ap down sum_is, ap up difference_is, ap down difference_is, add_is p.x p.y, minus_is p.x p.y, times_add k (s.at i).x (s.at i).y, times_minus k (s.at i).x (s.at i).y))

      py : p.y ≡ pos k *ℤ (s.at i).y
      py = same _ _ (omega (arith, ap up sum_is, ap down sum_is, ap up difference_is, ap down difference_is, add_is p.x p.y, minus_is p.x p.y, times_add k (s.at i).x (s.at i).y, times_minus k (s.at i).x (s.at i).y))

  module _ (k : ℕ) where
    down_at : (t : Segments) (g : Tree) → TopDown s k t g → AtSinks s k g
    down_at (sink i) (leaf j p) (e, h) = rw e (at_sink k i p h)
    down_at (sink i) (join p x l y r) h = absurd h
    down_at (merge e a f b) (leaf j p) h = absurd h
    down_at (merge e a f b) (join p x l y r) (_, _, _, _, _, dl, dr) = (down_at a l dl, down_at b r dr)

    down_reaches : (t : Segments) (g : Tree) → TopDown s k t g → Reaches g
    down_reaches (sink i) (leaf j p) h = tt
    down_reaches (sink i) (join p x l y r) h = absurd h
    down_reaches (merge e a f b) (leaf j p) h = absurd h
    down_reaches (merge e a f b) (join p x l y r) (_, ex, ey, nl, nr, dl, dr) = (omega arith, omega arith, down_reaches a l dl, down_reaches b r dr)

    down_hears : (t : Segments) (g : Tree) (total before : ℕ) → BottomUp s t → TopDown s k t g → 2 * before + k * path s t ≡ 2 * total → Hears s k total before g
    unfolding path
    down_hears (sink i) (leaf j p) total before bu (ej, h) e = rw ej (omega (arith, mul_left_comm k 2 (s.wait i)))
    down_hears (sink i) (join p x l y r) total before bu h e = absurd h
    down_hears (merge e a f b) (leaf j p) total before bu h q = absurd h
    down_hears (merge e a f b) (join p x l y r) total before (ba, bb, el) (_, ex, ey, _, _, dl, dr) q = (
      down_hears a l total (before + x) ba dl (omega (arith, mul-add k e (path s a))),
      down_hears b r total (before + y) bb dr (omega (arith, mul-add k e (path s a), mul-add k f (path s b), ap (λ n. k * n) even)),
    )
      where
        even : e + path s a ≡ f + path s b
        even = omega (arith, el.merges.balanced)

    down_leaves : (t : Segments) (g : Tree) → TopDown s k t g → leaves g ≡ sinks_of (topology t)
    unfolding leaves sinks_of topology
    down_leaves (sink i) (leaf j p) (e, h) = rw e
    down_leaves (sink i) (join p x l y r) h = absurd h
    down_leaves (merge e a f b) (leaf j p) h = absurd h
    down_leaves (merge e a f b) (join p x l y r) (_, _, _, _, _, dl, dr) = rw (down_leaves a l dl, down_leaves b r dr)

    down_wire : (t : Segments) (g : Tree) → TopDown s k t g → 2 * wire g ≡ k * cost t
    unfolding wire cost
    down_wire (sink i) (leaf j p) h = sym (mul-zero k)
    down_wire (sink i) (join p x l y r) h = absurd h
    down_wire (merge e a f b) (leaf j p) h = absurd h
    down_wire (merge e a f b) (join p x l y r) (_, ex, ey, _, _, dl, dr) =
        omega (arith, down_wire a l dl, down_wire b r dr, mul-add k (e + cost a) (f + cost b), mul-add k e (cost a), mul-add k f (cost b))

    -- half of k times the path is whole: it is what the clock takes to the first leaf
    first : (t : Segments) (g : Tree) → TopDown s k t g → (total : ℕ) × (2 * total ≡ k * path s t)
    unfolding path
    first (sink i) (leaf j p) h = (k * s.wait i, sym (mul_left_comm k 2 (s.wait i)))
    first (sink i) (join p x l y r) h = absurd h
    first (merge e a f b) (leaf j p) h = absurd h
    first (merge e a f b) (join p x l y r) (_, ex, _, _, _, dl, _) = let (n, w) = first a l dl in (x + n, omega (arith, mul-add k e (path s a)))

    module _ (o : Order) (g : Tree) (d : DME s k o g) where
      -- the clock is at each sink after half of k times the diameter of all
      time : (total : ℕ) × (2 * total ≡ k * diameter s (sinks_of o)) × Hears s k total 0 g
      time =
          let (total, w) = first d.segments g d.top_down in
          (total, w ∙ ap (λ n. k * n) (path_is s d.segments d.bottom_up) ∙ ap (λ (r : Order). k * diameter s (sinks_of r)) d.over, down_hears d.segments g total 0 d.bottom_up d.top_down (omega arith))

      -- THE PATHS of every outcome
      pub outcome-paths : (p : ℕ) → Memᴰ p (arrivals s k g) → 2 * p ≡ k * diameter s (sinks_of o)
      outcome-paths p m = let (total, w, h) = time in omega (arith, heard s k g total 0 h p m)

      -- EVERY OUTCOME has no skew
      pub outcome_zero_skew : Over s o → ZeroSkew s k g
      outcome_zero_skew over =
          let le : leaves g ≡ sinks_of o = down_leaves d.segments g d.top_down ∙ ap sinks_of d.over in
          let (total, w, h) = time in
          unlevel s k g (record {
            total = total;
            at_sinks = down_at d.segments g d.top_down;
            reaches = down_reaches d.segments g d.top_down;
            hears = h;
            once = λ i p. rw le (over.once i p);
            no_other = λ i p. rw le (over.no_other i p);
          })

  -- ---- the length that the bottom-up phase finds is document 01's total
  wired_cost : (o : Order) → cost (wired s o) + 2 * waits s (sinks_of o) ≡ sums s o + diameter s (sinks_of o)
  unfolding cost wired waits sinks_of sums
  wired_cost (one i) = omega (arith, diam_one s i)
  wired_cost (both l r) =
      omega (
        arith,
        wired_cost l,
        wired_cost r,
        waits_append s (sinks_of l) (sinks_of r),
        under_l s (sinks_of l) (sinks_of r),
        under_r s (sinks_of l) (sinks_of r),
      )

  cost_is : (o : Order) → Over s o → cost (wired s o) ≡ halves s o
  unfolding halves
  cost_is o over = omega (arith, wired_cost o, waits_all s (sinks_of o) over.once over.no_other)

  -- THE WIRE of every outcome, in units of 1/k grid unit, of which half a unit has k / 2
  pub outcome-wire : (k : ℕ) (o : Order) (g : Tree) → DME s k o g → Over s o → 2 * wire g ≡ k * halves s o
  outcome-wire k o g d over =
      rw (← cost_is o over) (down_wire k (wired s o) g (rw (← d.over, ← bottom_up_is s d.segments d.bottom_up) d.top_down))
