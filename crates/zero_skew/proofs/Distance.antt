-- The Manhattan distance: of a place to itself, there and back, by way of a third place, and at another fineness.
use mathlib.Core.Path.{◌≡◌, sym}
use Prim.Native.Nat.{ℕ, ◌+◌, ◌*◌, ◌≤◌}
use native.Mathlib.Nat.{mul-add}
use native.Mathlib.Omega.{arith}
use lib.IntN.{ℤ, ◌-ℤ◌, nat_abs}
use Rattle.zero_skew.specs.Plane.{Place, dist, scaled}
use Rattle.zero_skew.proofs.Whole.{far, abs_swap, abs-minus, times_abs}

abs_self : (a : ℤ) → nat_abs (a -ℤ a) ≡ 0
abs_self a = rw (abs-minus a a) (omega arith)

pub dist_self : (p : Place) → dist p p ≡ 0
dist_self p = omega (arith, abs_self p.x, abs_self p.y)

pub dist_far : (p q r : Place) → dist p r ≤ dist p q + dist q r
dist_far p q r = omega (arith, far p.x q.x r.x, far p.y q.y r.y)

pub dist_swap : (p q : Place) → dist p q ≡ dist q p
dist_swap p q = omega (arith, abs_swap p.x q.x, abs_swap p.y q.y)

pub dist-scaled : (k : ℕ) (p q : Place) → dist (scaled k p) (scaled k q) ≡ k * dist p q
dist-scaled k p q = rw (times_abs k p.x q.x, times_abs k p.y q.y) (sym (mul-add k _ _))
