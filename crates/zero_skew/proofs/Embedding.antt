-- Document 01's embedding of a joining order is a zero-skew tree on the grid of quarters, with document 01's paths and total: it is an outcome of deferred-merge embedding.
use mathlib.Core.Path.{◌≡◌}
use mathlib.Core.List.{Memᴰ}
use Prim.Native.Nat.{ℕ, ◌*◌}
use native.Mathlib.Omega.{arith}
use Rattle.zero_skew.specs.Plane.{Sinks}
use Rattle.zero_skew.specs.Box.{diameter}
use Rattle.zero_skew.specs.Tree.{wire, arrivals, ZeroSkew}
use Rattle.zero_skew.specs.Order.{Order, sinks_of, embedded, Over, halves}
use Rattle.zero_skew.proofs.DeferredMerge.{is_deferred_merge}
use Rattle.zero_skew.proofs.Outcomes.{outcome-paths, outcome_zero_skew, outcome-wire}

module _ (s : Sinks) (o : Order) where
  pub embedded_zero_skew : Over s o → ZeroSkew s 4 (embedded s o)
  embedded_zero_skew over = outcome_zero_skew s 4 o (embedded s o) (is_deferred_merge s o) over

  -- "Every path from root to sink is d(root) half units": with the sink's own delay, and each half unit of two quarters
  pub embedded-paths : (p : ℕ) → Memᴰ p (arrivals s 4 (embedded s o)) → p ≡ 2 * diameter s (sinks_of o)
  embedded-paths p m = omega (arith, outcome-paths s 4 o (embedded s o) (is_deferred_merge s o) p m)

  -- 000, Theorem 4, doubled
  pub embedded-wire : Over s o → wire (embedded s o) ≡ 2 * halves s o
  embedded-wire over = omega (arith, outcome-wire s 4 o (embedded s o) (is_deferred_merge s o) over)
