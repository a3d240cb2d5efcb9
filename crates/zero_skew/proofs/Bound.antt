-- No zero-skew tree has less wire than its joining order's diameters say.
use mathlib.Core.Logic.{⊎_elim}
use mathlib.Core.List.Memᴰ
use mathlib.Core.List.{List, [], ◌∷◌, ◌++◌, Memᴰ}
use Prim.Native.Nat.{ℕ, ◌+◌, ◌*◌, ◌≤◌}
use native.Mathlib.Nat.{mul-zero, mul-add, add-zero}
use native.Mathlib.Omega.{arith}
use Rattle.zero_skew.specs.Plane.{Sinks, dist, scaled}
use Rattle.zero_skew.specs.Box.{diameter, apart}
use Rattle.zero_skew.specs.Tree.{Tree, leaf, join, top, leaves, wire, AtSinks, Reaches, ZeroSkew}
use Rattle.zero_skew.proofs.Distance.{dist_self, dist_far, dist_swap, dist-scaled}
use Rattle.zero_skew.proofs.Lemma1.{diam_met, diam_none}
use Rattle.zero_skew.proofs.Timed.{Hears, Timed, level}
use Rattle.zero_skew.proofs.Sums.{waits, waits_append}

-- the sum over the joins of a tree of the diameter of the sinks below
unfoldable pub diameters : Sinks → Tree → ℕ
diameters s (leaf i p) = 0
diameters s (join p a l b r) = diameter s (leaves l ++ leaves r) + diameters s l + diameters s r

module _ (s : Sinks) (k total : ℕ) where
  -- from a node to a sink below it: what the clock has left, at the node, is enough for the way and for the sink's own delay
  near : (t : Tree) (before : ℕ) → AtSinks s k t → Reaches t → Hears s k total before t → (i : ℕ) → Memᴰ i (leaves t) → dist (top t) (scaled k (s.at i)) + k * s.wait i + before ≤ total
  unfolding leaves
  near (leaf j p) before at reach hear i m = rw (Memᴰ.eq_of_singleton m, at) (omega (arith, dist_self (scaled k (s.at j))))
  near (join p a l b r) before at reach hear i m =
      ⊎_elim
      (λ ml. omega (arith, near l (before + a) at.0 reach.2 hear.0 i ml, dist_far p (top l) (scaled k (s.at i))))
      (λ mr. omega (arith, near r (before + b) at.1 reach.3 hear.1 i mr, dist_far p (top r) (scaled k (s.at i))))
      (Memᴰ.append_cases (leaves l) m)

  arrived : (t : Tree) (before : ℕ) → Hears s k total before t → before ≤ total
  arrived (leaf j p) before hear = omega arith
  arrived (join p a l b r) before hear = omega (arith, arrived l (before + a) hear.0)

  module _ (t : Tree) (before : ℕ) (at : AtSinks s k t) (reach : Reaches t) (hear : Hears s k total before t) where
    pair_near : (i j : ℕ) → Memᴰ i (leaves t) → Memᴰ j (leaves t) → k * apart s i j + 2 * before ≤ 2 * total
    pair_near i j mi mj =
        rw (mul-add k (dist (s.at i) (s.at j)) (s.wait i + s.wait j), mul-add k (s.wait i) (s.wait j), ← dist-scaled k (s.at i) (s.at j))
        (omega (
          arith,
          near t before at reach hear i mi,
          near t before at reach hear j mj,
          dist_far (scaled k (s.at i)) (top t) (scaled k (s.at j)),
          dist_swap (scaled k (s.at i)) (top t),
        ))

    -- a set of sinks below a node: its diameter is at most twice what the clock has left there
    diam_near : (l : List ℕ) → ((i : ℕ) → Memᴰ i l → Memᴰ i (leaves t)) → k * diameter s l + 2 * before ≤ 2 * total
    diam_near [] below = rw (diam_none s, mul-zero k) (omega (arith, arrived t before hear))
    diam_near (h ∷ l) below =
        let (i, j, mi, mj, e) = diam_met s h l in
        rw e (pair_near i j (below i mi) (below j mj))

  bound : (t : Tree) (before : ℕ) → AtSinks s k t → Reaches t → Hears s k total before t → k * diameters s t + 2 * total ≤ 2 * wire t + 2 * (k * waits s (leaves t)) + 2 * before
  unfolding diameters wire waits leaves
  bound (leaf j p) before at reach hear = rw (mul-zero k, add-zero) (omega arith)
  bound (join p a l b r) before at reach hear =
      rw (waits_append s (leaves l) (leaves r), mul-add k (waits s (leaves l)) (waits s (leaves r)))
      (rw (mul-add k (diameter s (leaves l ++ leaves r) + diameters s l) (diameters s r), mul-add k (diameter s (leaves l ++ leaves r)) (diameters s l))
      (omega (
        arith,
        bound l (before + a) at.0 reach.2 hear.0,
        bound r (before + b) at.1 reach.3 hear.1,
        diam_near (join p a l b r) before at reach hear (leaves l ++ leaves r) (λ i m. m),
      )))

-- THE BOUND, for the joining order of the tree
pub at_least : (s : Sinks) (k : ℕ) (t : Tree) → ZeroSkew s k t → k * (diameters s t + diameter s (leaves t)) ≤ 2 * wire t + 2 * (k * waits s (leaves t))
at_least s k t zero_skew =
    let z : Timed s k t = level s k t zero_skew in
    rw (mul-add k (diameters s t) (diameter s (leaves t)))
    (omega (
      arith,
      bound s k z.total t 0 z.at_sinks z.reaches z.hears,
      diam_near s k z.total t 0 z.at_sinks z.reaches z.hears (leaves t) (λ i m. m),
    ))
