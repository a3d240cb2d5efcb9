-- What the lent buffers hold after an accepted call, from its contract alone: pairs by the rule, and with places and wires a zero-skew tree; and how large its total is.
use mathlib.Core.Path.{◌≡◌}
use mathlib.Core.List.{List}
use Prim.Native.Nat.{ℕ, ◌-◌, ◌*◌, ◌≤◌, ◌<◌}
use native.Mathlib.Omega.{arith}
use lib.IntN.{ℤ}
use lib.ListN.{length, take}
use Rattle.plane.specs.Said.Said.{answered}
use Rattle.plane.specs.Sinks.{sinks_at, prompt}
use Rattle.embedding.specs.Described.{Level}
use Rattle.orders.proofs.Bounded.{total_bounded, no_delay_bounded}
use Rattle.partners.specs.Rule.{ByRule}
use Rattle.nearest.specs.Calls.{Joining, Embedding}
use Rattle.nearest.proofs.ByRule.{order_by_rule}
use Rattle.nearest.proofs.Passing.{ready}
use Rattle.nearest.proofs.Treed.{order_held, order_sounds}
use Rattle.nearest.proofs.ZeroSkew.{tree_said_lem, nearest_level}

-- the pairs that a buffer of joins holds from its front
abbrev pub held : List ℤ → List ℕ → List ℕ
held xs js' = take (2 * (length xs - 1)) js'

pub joined_by_rule : {xs ys : List ℤ} {delays js js' : List ℕ} → Joining xs ys delays js (answered tt) js' → ByRule (sinks_at xs ys delays) (length xs) (held xs js')
joined_by_rule {xs} {ys} {delays} {js} {js'} p = rw (order_held xs ys delays js js' p.writes) (order_by_rule (sinks_at xs ys delays) (length xs))

module _ {xs ys : List ℤ} {delays js : List ℕ} {us vs : List ℤ} {ws : List ℕ} {t : ℕ} {js' : List ℕ} {us' vs' : List ℤ} {ws' : List ℕ} where
  pub embedded_by_rule : Embedding xs ys delays js us vs ws (answered t) js' us' vs' ws' → ByRule (sinks_at xs ys delays) (length xs) (held xs js')
  embedded_by_rule p = rw (order_held xs ys delays js js' p.writes_j) (order_by_rule (sinks_at xs ys delays) (length xs))

  -- pairs, places and wires, as the four buffers hold them
  pub nearest_level_held : Embedding xs ys delays js us vs ws (answered t) js' us' vs' ws' → Level (sinks_at xs ys delays) (held xs js') us' vs' ws' t
  nearest_level_held p = rw (order_held xs ys delays js js' p.writes_j) (nearest_level p)

  -- "Totals .. stay below 3,072,000,000."
  pub nearest_bounded : Embedding xs ys delays js us vs ws (answered t) js' us' vs' ws' → t < 3072000000
  nearest_bounded p =
      let (b, _, q) = tree_said_lem p in
      let c = ready xs ys delays js b in
      omega (arith, total_bounded c.ranged (order_sounds c).joins)

  -- where no sink has a delay: "A total never passes 2,048,000,000."
  pub nearest_prompt_bounded : delays ≡ prompt xs → Embedding xs ys delays js us vs ws (answered t) js' us' vs' ws' → t ≤ 2048000000
  nearest_prompt_bounded none p =
      let (b, _, q) = tree_said_lem p in
      let c = ready xs ys delays js b in
      omega (arith, no_delay_bounded none c.ranged (order_sounds c).joins)
