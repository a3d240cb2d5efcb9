-- From what the code's arrays hold of the nodes to document 01's diameters and total.
use mathlib.Core.Path.{◌≡◌, ◌∙◌}
use mathlib.Core.List.{List}
use Prim.Native.Nat.{ℕ, ◌+◌, ◌-◌, ◌*◌, ◌≤◌, ◌<◌}
use native.Mathlib.Omega.{arith}
use lib.ListN.{get_or}
use Rattle.lists.specs.Grow.{sum_to}
use Rattle.lists.proofs.Grow.{sum_same}
use Rattle.zero_skew.specs.Plane.{Sinks}
use Rattle.measures.specs.Boxes.{diam_of}
use Rattle.plane.proofs.Covering.{covers_diam}
use Rattle.measures.specs.declared.boxes.Box.{Box}
use Rattle.orders.specs.Nodes.{d, below, total}
use Rattle.orders.specs.Table.{box_at}
use Rattle.orders.specs.Arrays.{Fairs, AllNodes}
use Rattle.orders.proofs.Theorem4.{not_cut}

module _ {s : Sinks} {js : List ℕ} {bs : List Box} {ds ps : List ℕ} (m : AllNodes s js bs ds ps) where
  abbrev n : ℕ
  n = s.n

  pub fairs : Fairs (2 * n - 1) bs
  fairs k h = (m.boxed k h).fair

  pub diam_is : (k : ℕ) → k < 2 * n - 1 → diam_of (box_at bs k) ≡ d s js k
  diam_is k h = covers_diam s (below n js k) (box_at bs k) (m.boxed k h)

  pub size_is : (k : ℕ) → k < 2 * n - 1 → get_or ds k 0 ≡ d s js k
  size_is k h = m.sized k h ∙ diam_is k h

  gross_is : sum_to (λ i. get_or ds (n + i) 0) (n - 1) + get_or ds (2 * n - 2) 0 ≡ sum_to (λ i. d s js (n + i)) (n - 1) + d s js (2 * n - 2)
  gross_is =
      let o = m.ordered.some in
      rw (sum_same (λ i. get_or ds (n + i) 0) (λ i. d s js (n + i)) (n - 1) (λ i h. size_is (n + i) (omega arith)), size_is (2 * n - 2) (omega arith))

  -- the sum of the diameters of the joins, and that of the sinks' own
  module _ {sum own : ℕ} (joins : sum ≡ sum_to (λ i. get_or ds (n + i) 0) (n - 1)) (sinks : own ≡ 2 * sum_to s.wait n) where
    pub own_less : own ≤ sum + get_or ds (2 * n - 2) 0
    own_less = omega (arith, gross_is, not_cut s js m.ordered)

    pub total_is : sum + get_or ds (2 * n - 2) 0 - own ≡ total s js
    total_is = omega (arith, gross_is)
