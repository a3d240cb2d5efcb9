-- What a joining order adds up over its pairs, its root has: every sink once, and the sum of the diameters of all joins.
use mathlib.Core.Path.{◌≡◌, refl, ap, ◌∙◌}
use mathlib.Core.Logic.{⊎_elim}
use mathlib.Core.List.{List, Memᴰ}
use Prim.Native.Nat.{ℕ, zero, suc, ◌+◌, ◌-◌, ◌*◌, ◌≤◌, ◌<◌}
use native.Mathlib.Omega.{arith}
use borrow.Author.Tests.{ne_eqb}
use lib.ListN.{get_or}
use Rattle.lists.specs.Grow.{sum_to}
use Rattle.lists.proofs.Grow.{sum_same}
use Rattle.lists.proofs.Sums.{sum_none}
use Rattle.lists.proofs.Tests.{or_lt}
use Rattle.zero_skew.specs.Plane.{Sinks}
use Rattle.zero_skew.specs.Tree.{count}
use Rattle.zero_skew.specs.Order.{sums, halves, Over}
use Rattle.zero_skew.proofs.Count.{count_append, in_count}
use Rattle.orders.specs.Joins.{left, right}
use Rattle.orders.specs.Sound.{Ordered}
use Rattle.orders.specs.Nodes.{node, below, d, total}
use Rattle.orders.proofs.Parents.{entry_low}
use Rattle.orders.proofs.Orders.{node-sink, node-join, below_sink, below_join}
use Rattle.orders.proofs.Permuted.{is, hits, hits_none, hits_once, permuted}

module _ (n : ℕ) (js : List ℕ) (o : Ordered n js) where
  -- a sum over the pairs, of both their nodes, is one over all nodes but the root
  by_pairs : (f : ℕ → ℕ) (m : ℕ) → sum_to (λ i. f (left js i) + f (right js i)) m ≡ sum_to (λ j. f (get_or js j 0)) (2 * m)
  by_pairs f zero = refl
  by_pairs f (suc m) =
      let q : 2 * suc m ≡ suc (suc (2 * m)) = omega arith in
      let r : suc (2 * m) ≡ 2 * m + 1 = omega arith in
      rw q (rw r (omega (arith, by_pairs f m)))

  pub over_pairs : (f : ℕ → ℕ) → sum_to (λ i. f (left js i) + f (right js i)) (n - 1) ≡ sum_to f (2 * n - 2)
  over_pairs f =
      let q : 2 * (n - 1) ≡ 2 * n - 2 = omega arith in
      by_pairs f (n - 1)
      ∙ rw q (permuted (λ j. get_or js j 0) (2 * n - 2) (λ j h. omega (arith, entry_low n js o j (omega arith))) (λ i j h l. o.valid.once i j h (omega arith)) f)

  module _ (f e : ℕ → ℕ) (step : (i : ℕ) → i < n - 1 → f (n + i) ≡ e i + f (left js i) + f (right js i)) where
    grows : (m : ℕ) → m ≤ n - 1 → sum_to f (n + m) ≡ sum_to f n + sum_to e m + sum_to (λ i. f (left js i) + f (right js i)) m
    grows zero h = let z : n + 0 ≡ n = omega arith in rw z (omega arith)
    grows (suc m) h =
        let p : n + suc m ≡ suc (n + m) = omega arith in
        rw p (omega (arith, grows m (omega arith), step m (omega arith)))

    -- the root has what all sinks have, and what each join adds
    pub root_has : f (2 * n - 2) ≡ sum_to f n + sum_to e (n - 1)
    root_has =
        let s = o.some in
        let p : n + (n - 1) ≡ suc (2 * n - 2) = omega arith in
        let g = grows (n - 1) (omega arith) in
        omega (arith, rw p at g, over_pairs f)

  counted : (i : ℕ) → count i (below n js (2 * n - 2)) ≡ hits (λ j. j) n i
  unfolding count hits
  counted i =
      root_has (λ k. count i (below n js k)) (λ j. 0)
      (λ j h. ap (count i) (below_join n js o j h) ∙ count_append i (below n js (left js j)) (below n js (right js j)) ∙ omega arith)
      ∙ rw (sum_none (λ j. 0) (n - 1) (λ j h. refl), sum_same (λ k. count i (below n js k)) (λ k. is i k) n (λ k h. ap (count i) (below_sink n js o k h) ∙ omega arith))
      (omega arith)

  once : (i : ℕ) → i < n → count i (below n js (2 * n - 2)) ≡ 1
  once i h = counted i ∙ hits_once (λ j. j) n (λ j l. l) (λ a b l m e. omega arith) i h

  no_other : (i : ℕ) → n ≤ i → count i (below n js (2 * n - 2)) ≡ 0
  no_other i h = counted i ∙ hits_none (λ j. j) i n (λ j l e. omega arith)

module _ (s : Sinks) (js : List ℕ) (o : Ordered s.n js) where
  -- the order joins each sink once
  pub over : Over s (node s.n js (2 * s.n - 2))
  over = record { once = once s.n js o; no_other = no_other s.n js o }

  -- and no node has any other below it: of the nodes that the first m joins make
  no_others : (m : ℕ) → m ≤ s.n - 1 → (k i : ℕ) → k < s.n + m → s.n ≤ i → count i (below s.n js k) ≡ 0
  unfolding count
  no_others zero l k i h g = ap (count i) (below_sink s.n js o k (omega arith)) ∙ rw (ne_eqb i k (λ e. omega arith))
  no_others (suc m) l k i h g =
      ⊎_elim
      (λ a. no_others m (omega arith) k i a g)
      (λ a.
      let e : k ≡ s.n + m = omega arith in
      ap (λ (x : ℕ). count i (below s.n js x)) e
      ∙ ap (count i) (below_join s.n js o m (omega arith))
      ∙ count_append i (below s.n js (left js m)) (below s.n js (right js m))
      ∙ omega (
        arith,
        no_others m (omega arith) (left js m) i (o.valid.low_left m (omega arith)) g,
        no_others m (omega arith) (right js m) i (o.valid.low_right m (omega arith)) g,
      ))
      (or_lt k (s.n + m))

  pub is_sink : (k : ℕ) → k < 2 * s.n - 1 → (i : ℕ) → Memᴰ i (below s.n js k) → i < s.n
  is_sink k h i m =
      ⊎_elim
      (λ a. a)
      (λ a. absurd (omega (arith, no_others (s.n - 1) (omega arith) k i (omega (arith, o.some)) a, in_count i (below s.n js k) m)))
      (or_lt i s.n)

  pub sums-sink : (k : ℕ) → k < s.n → sums s (node s.n js k) ≡ 0
  unfolding sums
  sums-sink k h = ap (sums s) (node-sink s.n js o k h)

  pub sums_join : (i : ℕ) → i < s.n - 1 → sums s (node s.n js (s.n + i)) ≡ d s js (s.n + i) + sums s (node s.n js (left js i)) + sums s (node s.n js (right js i))
  unfolding sums
  sums_join i h = ap (sums s) (node-join s.n js o i h) ∙ rw (below_join s.n js o i h)

  -- "the sum of d over all joins"
  pub sums_are : sums s (node s.n js (2 * s.n - 2)) ≡ sum_to (λ i. d s js (s.n + i)) (s.n - 1)
  sums_are =
      root_has s.n js o (λ k. sums s (node s.n js k)) (λ i. d s js (s.n + i)) sums_join
      ∙ rw (sum_none (λ k. sums s (node s.n js k)) s.n sums-sink) (omega arith)

  -- the total is that of the plane's theorems
  pub halves_are : halves s (node s.n js (2 * s.n - 2)) ≡ total s js
  unfolding halves
  halves_are = omega (arith, sums_are)
