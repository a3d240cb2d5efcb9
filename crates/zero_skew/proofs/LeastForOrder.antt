-- No zero-skew tree, at whatever fineness, has less wire than a joining order's total, if its own sum of diameters is no smaller; so none with that joining order has.
use mathlib.Core.Path.{◌≡◌, refl, ap}
use mathlib.Core.Logic.{⊎_elim}
use mathlib.Core.List.{List}
use Prim.Native.Nat.{ℕ, ◌+◌, ◌*◌, ◌≤◌, ◌<◌}
use native.Mathlib.Nat.{mul-sub, mul_left_comm, mul-le-mul_left}
use native.Mathlib.Omega.{arith}
use Rattle.lists.specs.Grow.{sum_to}
use Rattle.lists.proofs.Tests.{or_lt}
use Rattle.zero_skew.specs.Plane.{Sinks}
use Rattle.zero_skew.specs.Box.{diameter}
use Rattle.zero_skew.specs.Tree.{Tree, leaf, join, leaves, count, wire, ZeroSkew}
use Rattle.zero_skew.specs.Order.{Order, sinks_of, sums, order, Over, halves, Alike}
use Rattle.zero_skew.specs.DeferredMerge.{DME}
use Rattle.zero_skew.proofs.Lemma1.{diam_within}
use Rattle.zero_skew.proofs.Count.{count_in, in_count}
use Rattle.zero_skew.proofs.Sums.{waits_all}
use Rattle.zero_skew.proofs.Bound.{diameters, at_least}
use Rattle.zero_skew.proofs.Alike.{alike-sums}
use Rattle.zero_skew.proofs.Outcomes.{outcome-wire}

pub order-sinks : (t : Tree) → sinks_of (order t) ≡ leaves t
unfolding order sinks_of leaves
order-sinks (leaf i p) = refl
order-sinks (join p a l b r) = rw (order-sinks l, order-sinks r)

module _ (s : Sinks) where
  pub order-sums : (t : Tree) → sums s (order t) ≡ diameters s t
  unfolding order sums diameters
  order-sums (leaf i p) = refl
  order-sums (join p a l b r) = rw (order-sinks l, order-sinks r, order-sums l, order-sums r)

  -- a list with no other than the sinks has no larger diameter than one that holds each
  within : (l m : List ℕ) → ((i : ℕ) → s.n ≤ i → count i l ≡ 0) → ((i : ℕ) → i < s.n → 0 < count i m) → diameter s l ≤ diameter s m
  within l m none some =
      diam_within s l m (λ i h. ⊎_elim (λ p. count_in i m (some i p)) (λ p. absurd (omega (arith, none i p, in_count i l h))) (or_lt i s.n))

  module _ (o : Order) (over : Over s o) where
    -- THE BOUND, both sides counted in halves of 1/k grid unit
    pub half_units : (k : ℕ) (t : Tree) → ZeroSkew s k t → sums s o ≤ diameters s t → k * halves s o ≤ 2 * wire t
    unfolding halves
    half_units k t z less =
        rw (mul-sub k (sums s o + diameter s (sinks_of o)) (2 * sum_to s.wait s.n), mul_left_comm k 2 (sum_to s.wait s.n))
        (omega (
          arith,
          at_least s k t z,
          ap (λ m. k * m) (waits_all s (leaves t) z.once z.no_other),
          mul-le-mul_left {m = sums s o + diameter s (sinks_of o)} {n = diameters s t + diameter s (leaves t)} k
              (omega (arith, within (sinks_of o) (leaves t) over.no_other (λ i h. omega (arith, z.once i h)))),
        ))

    -- NO ZERO-SKEW TREE WITH THIS JOINING ORDER is shorter
    pub least_for_order : (k : ℕ) (t : Tree) → ZeroSkew s k t → Alike (order t) o → k * halves s o ≤ 2 * wire t
    least_for_order k t z a = half_units k t z (omega (arith, alike-sums s (order t) o a, order-sums t))

    -- deferred-merge embedding "optimally embeds any given topology" (002, section I)
    pub outcome_least : (j : ℕ) (g : Tree) → DME s j o g → (k : ℕ) (t : Tree) → ZeroSkew s k t → Alike (order t) o → k * wire g ≤ j * wire t
    outcome_least j g d k t z a =
        halve (omega (arith, mul-le-mul_left j (least_for_order k t z a), ap (λ n. k * n) (outcome-wire s j o g d over), mul_left_comm j 2 (wire t), mul_left_comm k 2 (wire g), mul_left_comm j k (halves s o)))
      where
        halve : 2 * (k * wire g) ≤ 2 * (j * wire t) → k * wire g ≤ j * wire t
        halve h = omega arith
