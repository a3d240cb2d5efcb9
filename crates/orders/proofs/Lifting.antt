-- Along one axis, the places that the code computes on lifted numbers are document 01's, lifted.
use mathlib.Core.Path.{◌≡◌, refl}
use mathlib.Core.Bool.{Bool, true, false}
use mathlib.Core.List.{List}
use Prim.Native.Nat.{ℕ, zero, suc, ◌+◌, ◌-◌, ◌*◌, ◌≤◌, ◌<◌, min, max}
use native.Mathlib.Omega.{arith}
use borrow.Author.Tests.{eqb-true, eqb-false}
use lib.Dec.{eqb}
use lib.IntN.{ℤ}
use Rattle.zero_skew.specs.Plane.{Sinks}
use Rattle.zero_skew.specs.Box.{smaller, high, low}
use Rattle.zero_skew.specs.Segment.{from, upto}
use Rattle.measures.specs.Measures.{Lifts}
use Rattle.measures.proofs.Lifted.{lift_larger, lift_smaller, from_lifts, upto_lifts}
use Rattle.orders.specs.Sound.{Ordered}
use Rattle.orders.specs.Nodes.{d, below, parent, value}
use Rattle.orders.proofs.Parents.{parent_above}
use Rattle.orders.proofs.Values.{value_root, value_next}

-- lo, hi and at are the lifted ends of the boxes and the lifted places, by node
module _ (s : Sinks) (js : List ℕ) (o : Ordered s.n js) (c : ℕ → ℤ) (lo hi at : ℕ → ℕ) where
  abbrev root : ℕ
  root = 2 * s.n - 2

  abbrev D : ℕ → ℕ
  D = d s js

  abbrev l : ℕ → List ℕ
  l = below s.n js

  module _
      (lows-are : (k : ℕ) → k < 2 * s.n - 1 → Lifts 64000000 (low s c (l k)) (lo k))
      (highs-are : (k : ℕ) → k < 2 * s.n - 1 → Lifts 64000000 (high s c (l k)) (hi k))
      (fit : (k : ℕ) → k < 2 * s.n - 1 → D k ≤ 2 * hi k)
      (root-at : at root ≡ 2 * hi root - D root)
      (next-at : (k : ℕ) → k < root → at k ≡ max (2 * hi k - D k) (min (2 * lo k + D k) (at (parent s.n js k)))) where
    from_at : (k : ℕ) → k < 2 * s.n - 1 → Lifts 128000000 (from s c (l k)) (2 * hi k - D k)
    from_at k h = from_lifts (high s c (l k)) (D k) (hi k) (fit k h) (highs-are k h)

    -- from the root down: m is how far
    lifts_down : (m k : ℕ) → k < 2 * s.n - 1 → root - k < m → Lifts 128000000 (value s c js k) (at k)
    lifts_down zero k h g = absurd (omega arith)
    lifts_down (suc m) k h g = go (eqb k root) refl (lifts_down m)
      where
        go : (t : Bool) → eqb k root ≡ t → ((j : ℕ) → j < 2 * s.n - 1 → root - j < m → Lifts 128000000 (value s c js j) (at j)) → Lifts 128000000 (value s c js k) (at k)
        go true e r =
            let q = eqb-true k root e in
            rw (q, value_root s js o c, root-at) (from_at root (omega arith))
        go false e r =
            let q : k < root = omega (arith, eqb-false k root e) in
            let a = parent_above s.n js o k q in
            let p = value s c js (parent s.n js k) in
            rw (value_next s js o c k q, next-at k q)
            (lift_larger 128000000 (from s c (l k)) (smaller (upto s c (l k)) p) (2 * hi k - D k) (min (2 * lo k + D k) (at (parent s.n js k)))
            (from_at k h)
            (lift_smaller 128000000 (upto s c (l k)) p (2 * lo k + D k) (at (parent s.n js k))
            (upto_lifts (low s c (l k)) (D k) (lo k) (lows-are k h))
            (r (parent s.n js k) (omega arith) (omega arith))))

    pub value_lifts : (k : ℕ) → k < 2 * s.n - 1 → Lifts 128000000 (value s c js k) (at k)
    value_lifts k h = lifts_down (2 * s.n - 1) k h (omega arith)
