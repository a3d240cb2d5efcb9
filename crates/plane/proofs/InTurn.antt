-- The box of all sinks is the box of the first, widened by each other sink in turn.
use mathlib.Core.Path.{◌≡◌, refl, ap, ◌∙◌}
use mathlib.Core.Bool.{Bool, true, ◌&&◌}
use mathlib.Core.List.{List, [], ◌∷◌}
use Prim.Native.Nat.{ℕ, zero, suc, ◌<◌}
use native.Mathlib.Omega.{arith}
use lib.Dec.{T}
use lib.IntN.{ℤ, pos}
use borrow.Author.Tests.{le-ltb}
use lib.ListN.{length, get_or}
use Rattle.lists.specs.Grow.{up_to}
use Rattle.lists.proofs.Grow.{length-up_to, tab_at}
use Rattle.zero_skew.specs.Box.{Bounds, greatest, least, box_of, hull}
use Rattle.zero_skew.proofs.Hull.{box-join}
use Rattle.measures.specs.Range.{in_range}
use Rattle.plane.specs.Sinks.{sinks_at, Ranged}
use Rattle.plane.specs.Bounds.{sink_bounds, widened_by, in_turn}
use Rattle.plane.proofs.Checks.{in_both}

module _ (xs ys : List ℤ) (delays : List ℕ) where
  abbrev x : ℕ → ℤ
  x i = get_or xs i (pos 0)

  abbrev y : ℕ → ℤ
  y i = get_or ys i (pos 0)

  abbrev w : ℕ → ℕ
  w i = get_or delays i 0

  box_one : (i : ℕ) → box_of (sinks_at xs ys delays) (i ∷ []) ≡ sink_bounds (x i) (y i) (w i)
  unfolding greatest least
  box_one i = refl

  both_true : (a b : Bool) → T a → T b → (a && b) ≡ true
  both_true mathlib.Core.Bool.false b p q = elim p [ ]
  both_true true mathlib.Core.Bool.false p q = elim q [ ]
  both_true true true p q = refl

  widens : (r : Ranged xs ys delays) (b : Bounds) (i : ℕ) → i < length xs → hull b (sink_bounds (x i) (y i) (w i)) ≡ widened_by b (x i) (y i) (w i)
  widens r b i h = let (p, q) = in_both xs ys delays r i h in rw (both_true (in_range (x i)) (in_range (y i)) p q, le-ltb 1000000 (w i) (r.early i))

  pub in_turn_lem : Ranged xs ys delays → (k : ℕ) → k < length xs → box_of (sinks_at xs ys delays) (up_to (suc k)) ≡ in_turn xs ys delays k
  unfolding in_turn
  in_turn_lem r zero h = box_one 0
  in_turn_lem r (suc k) h =
      rw (tab_at (λ i. i) (suc k))
      (box-join (sinks_at xs ys delays) (up_to (suc k)) (suc k ∷ []) (rw (length-up_to (suc k)) (omega arith)) (omega arith)
      ∙ ap (λ (b : Bounds). hull b (box_of (sinks_at xs ys delays) (suc k ∷ []))) (in_turn_lem r k (omega arith))
      ∙ ap (hull (in_turn xs ys delays k)) (box_one (suc k))
      ∙ widens r (in_turn xs ys delays k) (suc k) h)
