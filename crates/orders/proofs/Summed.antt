-- All nodes at once: what the parts of the pass up need of one another, and what their sums come to.
use mathlib.Core.Path.{◌≡◌, sym, ap, ◌∙◌}
use mathlib.Core.List.{List}
use Prim.Native.Nat.{ℕ, ◌+◌, ◌-◌, ◌*◌, ◌≤◌}
use native.Mathlib.Omega.{arith}
use mir.Syntax.{w32}
use mir.Val.{Fits}
use lib.IntN.{ℤ}
use lib.ListN.{length, get_or}
use Rattle.lists.specs.Grow.{sum_to}
use Rattle.plane.specs.Sinks.{sinks_at}
use Rattle.measures.specs.declared.boxes.Box.{Box}
use Rattle.orders.specs.Sound.{Sound}
use Rattle.orders.specs.Nodes.{total}
use Rattle.orders.specs.Table.{Sinked}
use Rattle.orders.specs.Arrays.{PutsOwn, PutsJoins}
use Rattle.orders.proofs.Upward.{joins_made}
use Rattle.orders.proofs.Totals.{own_less, total_is}

-- ---- the sums, where the root's diameter is x
module _ {xs ys : List ℤ} {delays js : List ℕ} {old : List Box} {own sum x : ℕ} {old-ds : List ℕ} {bs : List Box} {ds ps : List ℕ} (sound : Sound xs ys delays js) (put : Sinked xs ys delays (length xs) old) (o : PutsOwn delays (length delays) own old-ds) (w : PutsJoins (length xs) js (length xs - 1) old sum bs ds ps) (e : x ≡ get_or ds (2 * length xs - 2) 0) where
  -- as many delays as sinks
  own_sum : own ≡ 2 * sum_to (λ k. get_or delays k 0) (length xs)
  own_sum = o.sums ∙ ap (λ (m : ℕ). 2 * sum_to (λ k. get_or delays k 0) m) (sym sound.sinks.delayed)

  pub net_less : own ≤ sum + x
  net_less = omega (arith, e, own_less (joins_made sound put w) w.sums own_sum)

  pub net : sum + x - own ≡ total (sinks_at xs ys delays) js
  net = ap (λ (y : ℕ). sum + y - own) e ∙ total_is (joins_made sound put w) w.sums own_sum

  pub net_low : Fits w32 (sum + x - own)
  net_low = omega (arith, net, sound.low)
