-- The order that was written is what the embedding takes.
use mathlib.Core.Path.{◌≡◌}
use mathlib.Core.List.{List}
use Prim.Native.Nat.{ℕ, ◌-◌, ◌*◌}
use lib.IntN.{ℤ}
use lib.ListN.{length, take}
use Rattle.lists.specs.Grow.{front}
use Rattle.lists.proofs.Front.{front_part}
use Rattle.plane.specs.Sinks.{sinks_at}
use Rattle.orders.specs.Sound.{Sound}
use Rattle.orders.proofs.Bounded.{sound}
use Rattle.nearest.specs.Calls.{order_at}
use Rattle.nearest.specs.Ready.{CanJoin}
use Rattle.nearest.proofs.Validity.{order-valid}
use Rattle.nearest.proofs.ByRule.{order_by_rule}

-- what the buffer of joins holds from its front
pub order_held : (xs ys : List ℤ) (delays js js' : List ℕ) → js' ≡ front (order_at xs ys delays) js → take (2 * (length xs - 1)) js' ≡ order_at xs ys delays
order_held xs ys delays js js' e =
    front_part (order_at xs ys delays) js (2 * (length xs - 1)) e (order_by_rule (sinks_at xs ys delays) (length xs)).count

pub order_sounds : {xs ys : List ℤ} {delays js : List ℕ} → CanJoin xs ys delays js → Sound xs ys delays (order_at xs ys delays)
order_sounds {xs} {ys} {delays} r =
    sound r.ranged (record { some = r.some; few = r.few; valid = order-valid (sinks_at xs ys delays) (length xs) r.some })
