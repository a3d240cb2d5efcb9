-- Document 01's embedding is deferred-merge embedding, and the bottom-up phase has no other outcome.
use mathlib.Core.Path.{◌≡◌, refl, sym, ◌∙◌, ap}
use mathlib.Core.List.Memᴰ
use mathlib.Core.List.{List, [], ◌∷◌, ◌++◌, Memᴰ}
use Prim.Native.Nat.{ℕ, ◌+◌, ◌-◌, ◌*◌}
use native.Mathlib.Omega.{arith}
use lib.IntN.{ℤ, pos, ◌+ℤ◌, ◌-ℤ◌, ◌*ℤ◌}
use Rattle.zero_skew.specs.Plane.{Sinks, u, v, twice, quarters}
use Rattle.zero_skew.specs.Box.{greatest, least, diameter}
use Rattle.zero_skew.specs.Segment.{from, upto}
use Rattle.zero_skew.specs.Order.{Order, one, both, sinks_of, embed, embedded}
use Rattle.zero_skew.specs.Region.{Range, Region, In, Inside, fine, trr, ◌∩◌}
use Rattle.zero_skew.specs.DeferredMerge.{Segments, sink, merge, topology, ms, path, BottomUp, At, TopDown, DME, segment, wired}
use Rattle.zero_skew.proofs.Whole.{up, down, add_is, minus_is, times_up, times_down, same, to_le, of_le}
use Rattle.zero_skew.proofs.Hull.{under_l}
use Rattle.zero_skew.proofs.Placed.{from_is, upto_is, placed_inside, root_inside, near_parent, some_of, diam_one}
use Rattle.zero_skew.proofs.Merge.{merged}
use Rattle.zero_skew.proofs.EdgeLengths.{same_pair, edges}

-- a place in a region, on the grid of quarters
half_of_sum : (U V' : ℤ) → up (pos 2 *ℤ ((U +ℤ V') +ℤ (U -ℤ V'))) + 4 * down U ≡ down (pos 2 *ℤ ((U +ℤ V') +ℤ (U -ℤ V'))) + 4 * up U
half_of_sum U V' = omega (arith, times_up 2 ((U +ℤ V') +ℤ (U -ℤ V')), times_down 2 ((U +ℤ V') +ℤ (U -ℤ V')), add_is (U +ℤ V') (U -ℤ V'), add_is U V', minus_is U V')

half_of_difference : (U V' : ℤ) → up (pos 2 *ℤ ((U +ℤ V') -ℤ (U -ℤ V'))) + 4 * down V' ≡ down (pos 2 *ℤ ((U +ℤ V') -ℤ (U -ℤ V'))) + 4 * up V'
half_of_difference U V' = omega (arith, times_up 2 ((U +ℤ V') -ℤ (U -ℤ V')), times_down 2 ((U +ℤ V') -ℤ (U -ℤ V')), minus_is (U +ℤ V') (U -ℤ V'), add_is U V', minus_is U V')

four_times : (r : Range) (z w : ℤ) → In r z → up w + 4 * down z ≡ down w + 4 * up z → In (fine 4 r) w
four_times r z w h e =
    record {
      from_lo = to_le _ _ (omega (arith, of_le r.lo z h.from_lo, times_up 4 r.lo, times_down 4 r.lo));
      upto_hi = to_le _ _ (omega (arith, of_le z r.hi h.upto_hi, times_up 4 r.hi, times_down 4 r.hi));
    }

at_quarters : (a : Region) (U V' : ℤ) → Inside a U V' → At 4 a (quarters U V')
at_quarters a U V' h = record { by_u = four_times a.along_u U _ h.by_u (half_of_sum U V'); by_v = four_times a.along_v V' _ h.by_v (half_of_difference U V') }

module _ (s : Sinks) where
  joined : (a b : List ℕ) (i j : ℕ) → Memᴰ i a → Memᴰ j b → trr (diameter s (a ++ b) - diameter s a) (segment s a) ∩ trr (diameter s (a ++ b) - diameter s b) (segment s b) ≡ segment s (a ++ b)
  joined [] b i j mi mj = elim mi [ ]
  joined (h ∷ l) [] i j mi mj = elim mj [ ]
  joined (h ∷ l) (g ∷ m) i j mi mj = merged s h l g m

  -- ---- a sink: its segment is its own place
  lone_lo : (c : ℕ → ℤ) (i : ℕ) → twice (c i) ≡ from s c (i ∷ [])
  unfolding greatest
  lone_lo c i = same _ _ (omega (arith, diam_one s i, from_is (c i +ℤ pos (s.wait i)) (diameter s (i ∷ [])), add_is (c i) (pos (s.wait i)), add_is (c i) (c i)))

  lone_hi : (c : ℕ → ℤ) (i : ℕ) → twice (c i) ≡ upto s c (i ∷ [])
  unfolding least
  lone_hi c i = same _ _ (omega (arith, diam_one s i, upto_is (c i -ℤ pos (s.wait i)) (diameter s (i ∷ [])), minus_is (c i) (pos (s.wait i)), add_is (c i) (c i)))

  -- ---- document 01's wires: the path of a node is its diameter, its merging segment is document 01's, and the lengths are the least
  wired-path : (o : Order) → path s (wired s o) ≡ diameter s (sinks_of o)
  unfolding sinks_of wired path
  wired-path (one i) = sym (diam_one s i)
  wired-path (both l r) = omega (arith, wired-path l, under_l s (sinks_of l) (sinks_of r))

  pub wired_ms : (o : Order) → ms s (wired s o) ≡ segment s (sinks_of o)
  unfolding sinks_of wired ms
  wired_ms (one i) = λ k. record {
    along_u = record { lo = lone_lo (u s) i k; hi = lone_hi (u s) i k };
    along_v = record { lo = lone_lo (v s) i k; hi = lone_hi (v s) i k };
  }
  wired_ms (both l r) =
      let (i, mi) = some_of s l in
      let (j, mj) = some_of s r in
      rw (wired_ms l, wired_ms r) (joined (sinks_of l) (sinks_of r) i j mi mj)

  wired-topology : (o : Order) → topology (wired s o) ≡ o
  unfolding wired topology
  wired-topology (one i) = refl
  wired-topology (both l r) = rw (wired-topology l, wired-topology r)

  pub wired_up : (o : Order) → BottomUp s (wired s o)
  unfolding sinks_of wired
  wired_up (one i) = tt
  wired_up (both l r) =
      let (i, mi) = some_of s l in
      let (j, mj) = some_of s r in
      (wired_up l, wired_up r, rw (wired_ms l, wired_ms r, wired-path l, wired-path r) (edges s (sinks_of l) (sinks_of r) i j mi mj))

  -- THE BOTTOM-UP PHASE has one outcome, document 01's wires
  pub bottom_up_is : (t : Segments) → BottomUp s t → t ≡ wired s (topology t)
  unfolding sinks_of wired topology
  bottom_up_is (sink i) up = refl
  bottom_up_is (merge e a f b) (ua, ub, h) =
      let ea = bottom_up_is a ua in
      let eb = bottom_up_is b ub in
      let (_, _, k) = wired_up (both (topology a) (topology b)) in
      let (ee, ef) = same_pair _ _ _ _ e f _ _ (rw (ea, eb) at h) k in
      rw (ee, ef, ← ea, ← eb)

  pub path_is : (t : Segments) → BottomUp s t → path s t ≡ diameter s (sinks_of (topology t))
  path_is t up = ap (path s) (bottom_up_is t up) ∙ wired-path (topology t)

  pub ms_is : (t : Segments) → BottomUp s t → ms s t ≡ segment s (sinks_of (topology t))
  ms_is t up = ap (ms s) (bottom_up_is t up) ∙ wired_ms (topology t)

  -- ---- THE TOP-DOWN PHASE permits document 01's places, from whatever place of the root's segment
  wired_down : (o : Order) (U V' : ℤ) → Inside (segment s (sinks_of o)) U V' → TopDown s 4 (wired s o) (embed s o U V')
  unfolding sinks_of wired embed
  wired_down (one i) U V' on = (refl, rw (wired_ms (one i)) (at_quarters (segment s (i ∷ [])) U V' on))
  wired_down (both l r) U V' on =
      let near-l = near_parent s l (sinks_of l ++ sinks_of r) U V' (λ j m. Memᴰ.append_left (sinks_of r) m) on in
      let near-r = near_parent s r (sinks_of l ++ sinks_of r) U V' (λ j m. Memᴰ.append_right (sinks_of l) m) on in (
        rw (wired_ms (both l r)) (at_quarters (segment s (sinks_of l ++ sinks_of r)) U V' on),
        omega arith,
        omega arith,
        omega arith,
        omega arith,
        wired_down l _ _ (placed_inside s (sinks_of l) U V'),
        wired_down r _ _ (placed_inside s (sinks_of r) U V'),
      )

  -- so it permits the tree over an order with its top anywhere in the root's segment
  pub from_any_root : (o : Order) (U V' : ℤ) → Inside (segment s (sinks_of o)) U V' → DME s 4 o (embed s o U V')
  from_any_root o U V' on = record { segments = wired s o; over = wired-topology o; bottom_up = wired_up o; top_down = wired_down o U V' on }

  pub is_deferred_merge : (o : Order) → DME s 4 o (embedded s o)
  is_deferred_merge o = from_any_root o (from s (u s) (sinks_of o)) (from s (v s) (sinks_of o)) (root_inside s (sinks_of o))
