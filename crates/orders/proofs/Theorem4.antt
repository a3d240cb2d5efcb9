-- Document 000, Theorem 4, doubled: the wires add up to the total.
use mathlib.Core.Path.{◌≡◌}
use mathlib.Core.List.{List}
use Prim.Native.Nat.{ℕ, suc, ◌+◌, ◌-◌, ◌*◌, ◌≤◌, ◌<◌}
use native.Mathlib.Omega.{arith}
use borrow.Author.Tests.{lt-ltb, le-ltb}
use Rattle.lists.specs.Grow.{sum_to}
use Rattle.lists.proofs.Grow.{sum_same}
use Rattle.lists.proofs.Sums.{sum_plus}
use Rattle.zero_skew.specs.Plane.{Sinks}
use Rattle.zero_skew.specs.Order.{sums}
use Rattle.zero_skew.proofs.Placed.{diam_one}
use Rattle.orders.specs.Joins.{left, right}
use Rattle.orders.specs.Sound.{Ordered}
use Rattle.orders.specs.Nodes.{node, d, parent, wire, total}
use Rattle.orders.proofs.Parents.{parent_left, parent_right}
use Rattle.orders.proofs.Orders.{below_sink, rises}
use Rattle.orders.proofs.Joined.{over_pairs, root_has, sums-sink, sums_join, sums_are}

module _ (s : Sinks) (js : List ℕ) (o : Ordered s.n js) where
  pub wire_is : (k : ℕ) → k < 2 * s.n - 2 → wire s js k ≡ d s js (parent s.n js k) - d s js k
  wire_is k h = rw (lt-ltb k (2 * s.n - 2) h)

  pub wire-root : wire s js (2 * s.n - 2) ≡ 0
  wire-root = rw (le-ltb (2 * s.n - 2) (2 * s.n - 2) (omega arith))

  -- a wire makes up for the difference of the diameters
  made_up : (k p : ℕ) → k < 2 * s.n - 2 → parent s.n js k ≡ p → wire s js k + d s js k ≡ d s js p
  made_up k p h e = rw (← e) (omega (arith, wire_is k h, rises s js o k h))

  -- the wire below a node: what its diameter and the diameters of the joins below it add up to
  abbrev below_node : ℕ → ℕ
  below_node k = sums s (node s.n js k) + d s js k

  step : (i : ℕ) → i < s.n - 1 → below_node (s.n + i) ≡ (wire s js (left js i) + wire s js (right js i)) + below_node (left js i) + below_node (right js i)
  step i h =
      omega (
        arith,
        sums_join s js o i h,
        made_up (left js i) (s.n + i) (omega (arith, o.valid.low_left i h)) (parent_left s.n js o i h),
        made_up (right js i) (s.n + i) (omega (arith, o.valid.low_right i h)) (parent_right s.n js o i h),
      )

  at_sink : (k : ℕ) → k < s.n → below_node k ≡ s.wait k + s.wait k
  at_sink k h = rw (sums-sink s js o k h, below_sink s.n js o k h, diam_one s k) (omega arith)

  -- the wires, and each sink's delay to either side of it, make up the diameters
  wires_and_delays : sum_to (wire s js) (2 * s.n - 1) + 2 * sum_to s.wait s.n ≡ sum_to (λ i. d s js (s.n + i)) (s.n - 1) + d s js (2 * s.n - 2)
  wires_and_delays =
      let z = o.some in
      let e : 2 * s.n - 1 ≡ suc (2 * s.n - 2) = omega arith in
      rw e
      (omega (
        arith,
        wire-root,
        over_pairs s.n js o (wire s js),
        root_has s.n js o below_node (λ i. wire s js (left js i) + wire s js (right js i)) step,
        sum_same below_node (λ k. s.wait k + s.wait k) s.n at_sink,
        sum_plus s.wait s.wait s.n,
        sums_are s js o,
      ))

  -- so the delays never cut the total short
  pub not_cut : 2 * sum_to s.wait s.n ≤ sum_to (λ i. d s js (s.n + i)) (s.n - 1) + d s js (2 * s.n - 2)
  not_cut = omega (arith, wires_and_delays)

  pub wires_add_up : sum_to (wire s js) (2 * s.n - 1) ≡ total s js
  wires_add_up = omega (arith, wires_and_delays)
