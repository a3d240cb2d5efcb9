-- The nodes of a valid joining order, the sinks below them and their diameters.
use mathlib.Core.Path.{◌≡◌, ◌∙◌}
use mathlib.Core.Logic.{⊎_elim}
use mathlib.Core.List.{List, [], ◌∷◌, ◌++◌}
use Prim.Native.Nat.{ℕ, ◌+◌, ◌-◌, ◌*◌, ◌≤◌, ◌<◌}
use native.Mathlib.Omega.{arith}
use borrow.Author.Tests.{lt-ltb, le-ltb}
use lib.ListN.{length, length-append}
use Rattle.lists.proofs.Grow.{length-grow, grow_at, grow_low}
use Rattle.zero_skew.specs.Plane.{Sinks}
use Rattle.zero_skew.specs.Order.{Order, one, both, sinks_of}
use Rattle.zero_skew.proofs.Hull.{under_l, under_r}
use Rattle.orders.specs.Joins.{left, right}
use Rattle.orders.specs.Sound.{Ordered}
use Rattle.orders.specs.Nodes.{next_node, node, below, d, parent}
use Rattle.orders.proofs.Parents.{parent_is_join, parent_above, parent-names}

pub sinks_some : (o : Order) → 0 < length (sinks_of o)
unfolding sinks_of
sinks_some (one i) = omega arith
sinks_some (both l r) = rw (length-append (sinks_of l) (sinks_of r)) (omega (arith, sinks_some l))

-- of any list of pairs: a node is a sink, or joins the two nodes of its pair where these are lower
module _ (n : ℕ) (js : List ℕ) where
  sink_is : (k : ℕ) → k < n → node n js k ≡ one k
  unfolding node
  sink_is k h = grow_at (next_node n js) (2 * n - 1) k (one 0) (omega arith) ∙ rw (length-grow (next_node n js) k, lt-ltb k n h)

  join_is : (i : ℕ) → i < n - 1 → left js i < n + i → right js i < n + i → node n js (n + i) ≡ both (node n js (left js i)) (node n js (right js i))
  unfolding node
  join_is i h l r =
      let q : n + i - n ≡ i = omega arith in
      grow_at (next_node n js) (2 * n - 1) (n + i) (one 0) (omega arith)
      ∙ rw (length-grow (next_node n js) (n + i), le-ltb (n + i) n (omega arith), q)
      (rw (
        grow_low (next_node n js) (2 * n - 1) (n + i) (left js i) (one 0) (one 0) l (omega arith),
        grow_low (next_node n js) (2 * n - 1) (n + i) (right js i) (one 0) (one 0) r (omega arith),
      ))

  pub below_one : (k : ℕ) → k < n → below n js k ≡ k ∷ []
  unfolding sinks_of
  below_one k h = rw (sink_is k h)

  pub below_both : (i : ℕ) → i < n - 1 → left js i < n + i → right js i < n + i → below n js (n + i) ≡ below n js (left js i) ++ below n js (right js i)
  unfolding sinks_of
  below_both i h l r = rw (join_is i h l r)

module _ (n : ℕ) (js : List ℕ) (o : Ordered n js) where
  pub node-sink : (k : ℕ) → k < n → node n js k ≡ one k
  node-sink k h = sink_is n js k h

  -- pair i joins its two nodes
  pub node-join : (i : ℕ) → i < n - 1 → node n js (n + i) ≡ both (node n js (left js i)) (node n js (right js i))
  node-join i h = join_is n js i h (o.valid.low_left i h) (o.valid.low_right i h)

  pub below_sink : (k : ℕ) → k < n → below n js k ≡ k ∷ []
  below_sink k h = below_one n js k h

  pub below_join : (i : ℕ) → i < n - 1 → below n js (n + i) ≡ below n js (left js i) ++ below n js (right js i)
  below_join i h = below_both n js i h (o.valid.low_left i h) (o.valid.low_right i h)

module _ (s : Sinks) (js : List ℕ) (o : Ordered s.n js) where
  -- a node's diameter is no larger than its parent's
  rises_left : (i : ℕ) → i < s.n - 1 → d s js (left js i) ≤ d s js (s.n + i)
  rises_left i h = rw (below_join s.n js o i h) (under_l s (below s.n js (left js i)) (below s.n js (right js i)))

  rises_right : (i : ℕ) → i < s.n - 1 → d s js (right js i) ≤ d s js (s.n + i)
  rises_right i h = rw (below_join s.n js o i h) (under_r s (below s.n js (left js i)) (below s.n js (right js i)))

  pub rises : (k : ℕ) → k < 2 * s.n - 2 → d s js k ≤ d s js (parent s.n js k)
  rises k h =
      let p = parent s.n js k in
      let a = parent_above s.n js o k h in
      let i = p - s.n in
      let u = parent_is_join s.n js o k in
      let e : s.n + i ≡ p = omega arith in
      ⊎_elim
      (λ q. rw (← e) (rw q at (rises_left i (omega arith))))
      (λ q. rw (← e) (rw q at (rises_right i (omega arith))))
      (parent-names s.n js o k h)
