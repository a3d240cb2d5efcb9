-- What the answer of an accepted call of `search` is worth, from its contract alone.
use mathlib.Core.Path.{◌≡◌, sym, ap, ◌∙◌}
use mathlib.Core.Bool.{true}
use mathlib.Core.List.{List}
use Prim.Native.Nat.{ℕ, ◌*◌, ◌≤◌, ◌<◌, min}
use native.Mathlib.Omega.{arith}
use lib.IntN.{ℤ}
use lib.ListN.{length}
use Rattle.zero_skew.specs.Tree.{Tree, wire, ZeroSkew}
use Rattle.plane.specs.Said.Said.{answered}
use Rattle.plane.proofs.Answered.{after_answered}
use Rattle.plane.specs.Sinks.{sinks_at, prompt}
use Rattle.std.specs.Prelude.{Ok}
use Rattle.orders.specs.Nodes.{total}
use Rattle.orders.specs.Sound.{Ordered}
use Rattle.orders.proofs.Bounded.{total_bounded, no_delay_bounded}
use Rattle.search.specs.declared.search.Found.{Found}
use Rattle.subsets.specs.Best.{step_count}
use Rattle.search.specs.Prepared.{Provided}
use Rattle.search.specs.Rooms.{check_search}
use Rattle.search.specs.Searching.{Searches, found, joins_found}
use Rattle.search.proofs.Finding.{found_ordered, provided}
use Rattle.search.proofs.Promises.{from_proven, never_more, none_is_shorter, proven_from}

-- what an accepted call has shown
module _ (xs ys : List ℤ) (delays : List ℕ) (budget : ℕ) (table js : List ℕ) (us vs : List ℤ) (ws : List ℕ) (f : Found) (t j : List ℕ) (u v : List ℤ) (w : List ℕ)
    (call : Searches xs ys delays budget table js us vs ws (answered f) t j u v w) where
  pub shown : (check_search xs ys delays (length table) (length js) (length us) (length vs) (length ws) ≡ Ok tt) × (f ≡ found (sinks_at xs ys delays) budget)
  shown = after_answered (check_search xs ys delays (length table) (length js) (length us) (length vs) (length ws)) (found (sinks_at xs ys delays) budget) f call.answers

  pub ready : Provided xs ys delays table js us vs ws
  ready = provided xs ys delays table js us vs ws shown.0

  pub ordered : Ordered (length xs) (joins_found (sinks_at xs ys delays) budget)
  ordered = let p = ready.prepared in found_ordered xs ys delays budget p.ranged p.some p.few

  pub total_is : f.total ≡ total (sinks_at xs ys delays) (joins_found (sinks_at xs ys delays) budget)
  unfolding found
  total_is = ap (λ (g : Found). g.total) shown.1

  -- "Totals .. stay below 3,072,000,000."
  pub found_bounded : f.total < 3072000000
  found_bounded = rw total_is (total_bounded ready.prepared.ranged ordered)

  -- "A total never passes 2,048,000,000", where no sink has a delay
  pub found_prompt : delays ≡ prompt xs → f.total ≤ 2048000000
  found_prompt e = rw total_is (no_delay_bounded e ready.prepared.ranged ordered)

  -- "the steps reported equal the smaller of the budget and F(n)"
  pub steps_said : f.steps ≡ min budget (step_count (length xs))
  unfolding found
  steps_said = ap (λ (g : Found). g.steps) shown.1

  -- proven exactly where the budget is F(n) or more, and exactly where F(n) steps are said
  pub proven_enough : f.proven ≡ true → step_count (length xs) ≤ budget
  proven_enough e = from_proven (sinks_at xs ys delays) budget (sym (ap (λ (g : Found). g.proven) shown.1) ∙ e)

  pub enough_proven : step_count (length xs) ≤ budget → f.proven ≡ true
  enough_proven h = ap (λ (g : Found). g.proven) shown.1 ∙ proven_from (sinks_at xs ys delays) budget h

  pub proven_steps : f.proven ≡ true → f.steps ≡ step_count (length xs)
  proven_steps e = omega (arith, steps_said, proven_enough e)

  pub steps_proven : f.steps ≡ step_count (length xs) → f.proven ≡ true
  steps_proven e = enough_proven (omega (arith, steps_said, e))

  -- NO ZERO-SKEW TREE over the same sinks is shorter than one that is said to be proven: at whatever fineness k, with whatever joining
  pub proven_shortest : f.proven ≡ true → (k : ℕ) (g : Tree) → ZeroSkew (sinks_at xs ys delays) k g → k * f.total ≤ 2 * wire g
  proven_shortest e k g z =
      let p = ready.prepared in
      rw total_is (none_is_shorter xs ys delays p.ranged p.some p.few budget (proven_enough e) k g z)

  -- the same sinks with a larger budget: no more wire
  pub larger_budget : (c : ℕ) (table₂ js₂ : List ℕ) (us₂ vs₂ : List ℤ) (ws₂ : List ℕ) (f₂ : Found) (t₂ j₂ : List ℕ) (u₂ v₂ : List ℤ) (w₂ : List ℕ)
      → Searches xs ys delays c table₂ js₂ us₂ vs₂ ws₂ (answered f₂) t₂ j₂ u₂ v₂ w₂ → budget ≤ c → f₂.total ≤ f.total
  unfolding found
  larger_budget c table₂ js₂ us₂ vs₂ ws₂ f₂ t₂ j₂ u₂ v₂ w₂ call₂ h =
      let p = ready.prepared in
      let q = after_answered (check_search xs ys delays (length table₂) (length js₂) (length us₂) (length vs₂) (length ws₂)) (found (sinks_at xs ys delays) c) f₂ call₂.answers in
      omega (arith, total_is, ap (λ (g : Found). g.total) q.1, never_more xs ys delays p.ranged p.some p.few budget c h)
