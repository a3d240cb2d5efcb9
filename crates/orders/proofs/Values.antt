-- Document 01's rules of places, as equations: the root's value, and any other node's from its parent's.
use mathlib.Core.Path.{◌≡◌, refl, sym, ap, ◌∙◌}
use mathlib.Core.Bool.{Bool, true, false}
use mathlib.Core.List.{List}
use Prim.Native.Nat.{ℕ, zero, suc, ◌-◌, ◌*◌, ◌<◌}
use native.Mathlib.Omega.{arith}
use borrow.Author.Tests.{eqb-true, eqb-false, eq-eqb, ne_eqb}
use lib.Dec.{eqb}
use lib.IntN.{ℤ}
use Rattle.zero_skew.specs.Plane.{Sinks}
use Rattle.zero_skew.specs.Segment.{from, placed}
use Rattle.orders.specs.Sound.{Ordered}
use Rattle.orders.specs.Nodes.{below, parent, climb, value}
use Rattle.orders.proofs.Parents.{parent_above}

-- a node above is nearer to the root
nearer : (r k p m : ℕ) → k < r → k < p → r - k < suc m → r - p < m
nearer r k p m h g a = omega arith

module _ (s : Sinks) (js : List ℕ) (o : Ordered s.n js) (c : ℕ → ℤ) where
  abbrev root : ℕ
  root = 2 * s.n - 2

  climb-root : (m : ℕ) → climb (suc m) s c js root ≡ from s c (below s.n js root)
  unfolding climb
  climb-root m = rw (eq-eqb root root refl)

  climb_next : (m k : ℕ) → k < root → climb (suc m) s c js k ≡ placed s c (below s.n js k) (climb m s c js (parent s.n js k))
  unfolding climb
  climb_next m k h = rw (ne_eqb k root (λ e. omega arith))

  -- a climb that gets to the root may be given more steps
  climb_same : (m l k : ℕ) → k < 2 * s.n - 1 → root - k < m → root - k < l → climb m s c js k ≡ climb l s c js k
  climb_same zero l k h a b = absurd (omega arith)
  climb_same (suc m) zero k h a b = absurd (omega arith)
  climb_same (suc m) (suc l) k h a b = go (eqb k root) refl (climb_same m l)
    where
      go : (t : Bool) → eqb k root ≡ t
          → ((j : ℕ) → j < 2 * s.n - 1 → root - j < m → root - j < l → climb m s c js j ≡ climb l s c js j)
          → climb (suc m) s c js k ≡ climb (suc l) s c js k
      go true e r = let q = eqb-true k root e in rw q (climb-root m ∙ sym (climb-root l))
      go false e r =
          let q : k < root = omega (arith, eqb-false k root e) in
          let p = parent_above s.n js o k q in
          climb_next m k q ∙ ap (placed s c (below s.n js k)) (r (parent s.n js k) (omega arith) (nearer root k (parent s.n js k) m q p.0 a) (nearer root k (parent s.n js k) l q p.0 b)) ∙ sym (climb_next l k q)

  pub value_root : value s c js root ≡ from s c (below s.n js root)
  value_root = let z = o.some in let e : 2 * s.n - 1 ≡ suc root = omega arith in rw e (climb-root root)

  pub value_next : (k : ℕ) → k < root → value s c js k ≡ placed s c (below s.n js k) (value s c js (parent s.n js k))
  value_next k h =
      let e : 2 * s.n - 1 ≡ suc root = omega arith in
      let p = parent_above s.n js o k h in
      ap (λ (m : ℕ). climb m s c js k) e ∙ climb_next root k h
      ∙ ap (placed s c (below s.n js k)) (climb_same root (2 * s.n - 1) (parent s.n js k) (omega arith) (omega arith) (omega arith))
