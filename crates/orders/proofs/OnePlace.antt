-- Document 02, Q-1: sinks on one place, all with the same delay, get a tree without wire, in whatever order they are joined.
use mathlib.Core.Path.{◌≡◌, ◌∙◌, sym}
use mathlib.Core.List.{List}
use Prim.Native.Nat.{ℕ, ◌-◌, ◌*◌, ◌<◌}
use native.Mathlib.Omega.{arith}
use lib.Dec.{ltb, ltb→lt}
use Rattle.lists.proofs.Tests.{choice}
use Rattle.lists.proofs.Sums.{sum_none}
use Rattle.zero_skew.specs.Plane.{Sinks}
use Rattle.zero_skew.proofs.OnePlace.{gathered_diameter}
use Rattle.orders.specs.Sound.{Ordered}
use Rattle.orders.specs.Nodes.{node, below, d, parent, wire, total}
use Rattle.orders.proofs.Parents.{parent_above}
use Rattle.orders.proofs.Orders.{sinks_some}
use Rattle.orders.proofs.Joined.{is_sink}
use Rattle.orders.proofs.Theorem4.{wires_add_up}

module _ (s : Sinks) (js : List ℕ) (o : Ordered s.n js) (w : ℕ)
    (same : (i j : ℕ) → i < s.n → j < s.n → s.at i ≡ s.at j) (even : (i : ℕ) → i < s.n → s.wait i ≡ w) where
  d_own : (k : ℕ) → k < 2 * s.n - 1 → d s js k ≡ 2 * w
  d_own k h =
      gathered_diameter s w (below s.n js k) (sinks_some (node s.n js k))
      (record { same = λ i j mi mj. same i j (is_sink s js o k h i mi) (is_sink s js o k h j mj); even = λ i m. even i (is_sink s js o k h i m) })

  pub one_place_wire : (k : ℕ) → k < 2 * s.n - 1 → wire s js k ≡ 0
  one_place_wire k h =
      choice (λ x. x ≡ 0) (ltb k (2 * s.n - 2)) (d s js (parent s.n js k) - d s js k) 0
      (λ t.
      let l : k < 2 * s.n - 2 = ltb→lt k (2 * s.n - 2) t in
      let a = parent_above s.n js o k l in
      omega (arith, d_own k h, d_own (parent s.n js k) (omega arith)))
      (λ t. omega arith)

  pub one_place_total : total s js ≡ 0
  one_place_total = sym (wires_add_up s js o) ∙ sum_none (wire s js) (2 * s.n - 1) one_place_wire
