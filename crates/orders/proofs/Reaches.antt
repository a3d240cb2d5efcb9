-- Document 01: "Wire from a node to its parent .. is never below their distance", by node; and each node is in its merging segment.
use mathlib.Core.Path.{◌≡◌, refl}
use mathlib.Core.Logic.{⊎_elim}
use mathlib.Core.List.{List, Memᴰ}
use Prim.Native.Nat.{ℕ, ◌+◌, ◌-◌, ◌*◌, ◌≤◌, ◌<◌}
use native.Mathlib.Omega.{arith}
use lib.IntN.{ℤ}
use Rattle.lists.proofs.Tests.{or_lt}
use Rattle.zero_skew.specs.Plane.{Sinks, u, v, quarters, away}
use Rattle.zero_skew.specs.Segment.{placed}
use Rattle.zero_skew.specs.Tree.{top}
use Rattle.zero_skew.specs.Order.{Order, one, both, embed}
use Rattle.zero_skew.specs.Region.{Inside}
use Rattle.zero_skew.specs.DeferredMerge.{segment, ms, wired}
use Rattle.zero_skew.proofs.Places.{doubled_distance}
use Rattle.zero_skew.proofs.Placed.{placed_inside, root_inside, near_parent}
use Rattle.zero_skew.proofs.DeferredMerge.{wired_ms}
use Rattle.orders.specs.Joins.{left, right}
use Rattle.orders.specs.Sound.{Ordered}
use Rattle.orders.specs.Nodes.{node, below, parent, value, wire}
use Rattle.orders.proofs.Parents.{parent_is_join, parent_above, parent-names}
use Rattle.orders.proofs.Orders.{below_join}
use Rattle.orders.proofs.Values.{value_root, value_next}
use Rattle.orders.proofs.Theorem4.{wire_is}

top_is : (s : Sinks) (o : Order) (U V' : ℤ) → top (embed s o U V') ≡ quarters U V'
unfolding embed
top_is s (one i) U V' = refl
top_is s (both l r) U V' = refl

module _ (s : Sinks) (js : List ℕ) (o : Ordered s.n js) where
  abbrev U : ℕ → ℤ
  U = value s (u s) js

  abbrev V' : ℕ → ℤ
  V' = value s (v s) js

  -- "Segment of a node": each node stands in its own
  pub in_segment : (k : ℕ) → k < 2 * s.n - 1 → Inside (segment s (below s.n js k)) (U k) (V' k)
  in_segment k h =
      ⊎_elim
      (λ l. rw (value_next s js o (u s) k l, value_next s js o (v s) k l) (placed_inside s (below s.n js k) (U (parent s.n js k)) (V' (parent s.n js k))))
      (λ l. let e : k ≡ 2 * s.n - 2 = omega arith in rw (e, value_root s js o (u s), value_root s js o (v s)) (root_inside s (below s.n js (2 * s.n - 2))))
      (or_lt k (2 * s.n - 2))

  -- and that is the merging segment of the node (002, section I)
  pub in_merging_segment : (k : ℕ) → k < 2 * s.n - 1 → Inside (ms s (wired s (node s.n js k))) (U k) (V' k)
  in_merging_segment k h = rw (wired_ms s (node s.n js k)) (in_segment k h)

  within_parent : (k : ℕ) → k < 2 * s.n - 2 → (j : ℕ) → Memᴰ j (below s.n js k) → Memᴰ j (below s.n js (parent s.n js k))
  within_parent k h j m =
      let a = parent_above s.n js o k h in
      let b = parent_is_join s.n js o k in
      let i = parent s.n js k - s.n in
      let e : s.n + i ≡ parent s.n js k = omega arith in
      let q = below_join s.n js o i (omega arith) in
      rw (← e, q)
      (⊎_elim
      (λ p. let l : Memᴰ j (below s.n js (left js i)) = rw p m in mathlib.Core.List.Memᴰ.append_left (below s.n js (right js i)) l)
      (λ p. let l : Memᴰ j (below s.n js (right js i)) = rw p m in mathlib.Core.List.Memᴰ.append_right (below s.n js (left js i)) l)
      (parent-names s.n js o k h))

  pub wire_reaches : (k : ℕ) → k < 2 * s.n - 2 → away (U (parent s.n js k)) (V' (parent s.n js k)) (U k) (V' k) ≤ wire s js k
  wire_reaches k h =
      let p = parent s.n js k in
      let a = parent_above s.n js o k h in
      let w = near_parent s (node s.n js k) (below s.n js p) (U p) (V' p) (within_parent k h) (in_segment p (omega arith)) in
      let x = rw (top_is s (node s.n js k) (placed s (u s) (below s.n js k) (U p)) (placed s (v s) (below s.n js k) (V' p)), ← value_next s js o (u s) k h, ← value_next s js o (v s) k h, doubled_distance (U p) (V' p) (U k) (V' k)) at w in
      omega (arith, x, wire_is s js o k h)
