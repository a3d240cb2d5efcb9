-- The lists of U, V and wires describe the embedded tree of the joining order.
use mathlib.Core.Path.{◌≡◌, refl, ◌∙◌}
use mathlib.Core.Bool.{Bool, true, false}
use mathlib.Core.List.{List, ◌++◌}
use Prim.Native.Nat.{ℕ, zero, suc, ◌+◌, ◌-◌, ◌*◌, ◌≤◌, ◌<◌}
use native.Mathlib.Omega.{arith}
use borrow.Author.Tests.{lt-ltb, le-ltb, ltb-true, ltb-false}
use lib.Dec.{ltb}
use lib.IntN.{ℤ, pos}
use lib.ListN.{get_or}
use Rattle.lists.proofs.Grow.{length-grow, grow_at, grow_low}
use Rattle.zero_skew.specs.Plane.{Sinks, u, v}
use Rattle.zero_skew.specs.Box.{diameter}
use Rattle.zero_skew.specs.Segment.{placed}
use Rattle.zero_skew.specs.Tree.{leaf, join}
use Rattle.zero_skew.specs.Order.{embed, embedded}
use Rattle.orders.specs.Joins.{left, right}
use Rattle.orders.specs.Sound.{Ordered}
use Rattle.orders.specs.Nodes.{node, below, d, parent, value, wire}
use Rattle.embedding.specs.Described.{place_in, next_tree, tree_at, described}
use Rattle.orders.proofs.Parents.{parent_left, parent_right}
use Rattle.orders.proofs.Orders.{node-sink, node-join, below_join}
use Rattle.orders.proofs.Values.{value_root, value_next}
use Rattle.orders.proofs.Theorem4.{wire_is}

-- ---- the nodes of the tree that lists describe
module _ (n : ℕ) (js : List ℕ) (o : Ordered n js) (us vs : List ℤ) (ws : List ℕ) where
  tree_sink : (k : ℕ) → k < n → tree_at n js us vs ws k ≡ leaf k (place_in us vs k)
  unfolding tree_at
  tree_sink k h =
      grow_at (next_tree n js us vs ws) (2 * n - 1) k (leaf 0 (place_in us vs 0)) (omega arith)
      ∙ rw (length-grow (next_tree n js us vs ws) k, lt-ltb k n h)

  tree_join : (i : ℕ) → i < n - 1 → tree_at n js us vs ws (n + i)
      ≡ join (place_in us vs (n + i)) (2 * get_or ws (left js i) 0) (tree_at n js us vs ws (left js i)) (2 * get_or ws (right js i) 0) (tree_at n js us vs ws (right js i))
  unfolding tree_at
  tree_join i h =
      let q : n + i - n ≡ i = omega arith in
      grow_at (next_tree n js us vs ws) (2 * n - 1) (n + i) (leaf 0 (place_in us vs 0)) (omega arith)
      ∙ rw (length-grow (next_tree n js us vs ws) (n + i), le-ltb (n + i) n (omega arith), q)
      (rw (
        grow_low (next_tree n js us vs ws) (2 * n - 1) (n + i) (left js i) (leaf 0 (place_in us vs 0)) (leaf 0 (place_in us vs 0)) (o.valid.low_left i h) (omega arith),
        grow_low (next_tree n js us vs ws) (2 * n - 1) (n + i) (right js i) (leaf 0 (place_in us vs 0)) (leaf 0 (place_in us vs 0)) (o.valid.low_right i h) (omega arith),
      ))

-- lists that hold, by node, document 01's U, V and wires
pub record Holds (s : Sinks) (js : List ℕ) (us vs : List ℤ) (ws : List ℕ) : Type 0 where
  pub us_are : (k : ℕ) → k < 2 * s.n - 1 → get_or us k (pos 0) ≡ value s (u s) js k
  pub vs_are : (k : ℕ) → k < 2 * s.n - 1 → get_or vs k (pos 0) ≡ value s (v s) js k
  pub ws_are : (k : ℕ) → k < 2 * s.n - 1 → get_or ws k 0 ≡ wire s js k

module _ (s : Sinks) (js : List ℕ) (o : Ordered s.n js) (us vs : List ℤ) (ws : List ℕ) (holds : Holds s js us vs ws) where
  abbrev n : ℕ
  n = s.n

  abbrev Embeds : ℕ → Type 0
  Embeds k = tree_at n js us vs ws k ≡ embed s (node n js k) (value s (u s) js k) (value s (v s) js k)

  wire_of : (k i : ℕ) → k < 2 * n - 2 → parent n js k ≡ n + i → i < n - 1 → 2 * get_or ws k 0 ≡ 2 * (diameter s (below n js (left js i) ++ below n js (right js i)) - d s js k)
  wire_of k i h p l = rw (holds.ws_are k (omega arith), wire_is s js o k h, p, below_join n js o i l)

  sub_tree : (k i : ℕ) → k < 2 * n - 2 → parent n js k ≡ n + i → Embeds k
      → tree_at n js us vs ws k ≡ embed s (node n js k) (placed s (u s) (below n js k) (value s (u s) js (n + i))) (placed s (v s) (below n js k) (value s (v s) js (n + i)))
  sub_tree k i h p e = e ∙ rw (value_next s js o (u s) k h, value_next s js o (v s) k h, p)

  at_sink : (k : ℕ) → k < n → Embeds k
  unfolding embed
  at_sink k h =
      tree_sink n js o us vs ws k h
      ∙ rw (node-sink n js o k h, holds.us_are k (omega arith), holds.vs_are k (omega arith))

  at_join : (i : ℕ) → i < n - 1 → Embeds (left js i) → Embeds (right js i) → Embeds (n + i)
  unfolding embed
  at_join i h a b =
      let l : left js i < 2 * n - 2 = omega (arith, o.valid.low_left i h) in
      let r : right js i < 2 * n - 2 = omega (arith, o.valid.low_right i h) in
      tree_join n js o us vs ws i h
      ∙ rw (
        node-join n js o i h,
        holds.us_are (n + i) (omega arith),
        holds.vs_are (n + i) (omega arith),
        wire_of (left js i) i l (parent_left n js o i h) h,
        wire_of (right js i) i r (parent_right n js o i h) h,
        sub_tree (left js i) i l (parent_left n js o i h) a,
        sub_tree (right js i) i r (parent_right n js o i h) b,
      )

  embeds_below : (m : ℕ) → m ≤ 2 * n - 1 → (k : ℕ) → k < m → Embeds k
  embeds_below zero h k g = absurd (omega arith)
  embeds_below (suc m) h k g = go (ltb k m) refl (ltb m n) refl (embeds_below m (omega arith))
    where
      go : (t : Bool) → ltb k m ≡ t → (w : Bool) → ltb m n ≡ w → ((j : ℕ) → j < m → Embeds j) → Embeds k
      go true e w q all = all k (ltb-true k m e)
      go false e true q all = at_sink k (omega (arith, ltb-false k m e, ltb-true m n q))
      go false e false q all =
          let x : k ≡ n + (m - n) = omega (arith, ltb-false k m e, ltb-false m n q) in
          let i : m - n < n - 1 = omega (arith, ltb-false m n q) in
          rw x (at_join (m - n) i (all (left js (m - n)) (omega (arith, o.valid.low_left (m - n) i, ltb-false m n q))) (all (right js (m - n)) (omega (arith, o.valid.low_right (m - n) i, ltb-false m n q))))

  pub described_is : described n js us vs ws ≡ embedded s (node n js (2 * n - 2))
  described_is =
      let z = o.some in
      embeds_below (2 * n - 1) (omega arith) (2 * n - 2) (omega arith)
      ∙ rw (value_root s js o (u s), value_root s js o (v s))
