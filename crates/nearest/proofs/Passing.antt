-- What the check of a call leaves.
use mathlib.Core.Path.{◌≡◌}
use mathlib.Core.List.{List}
use Prim.Native.Nat.{ℕ, ◌-◌, ◌*◌}
use borrow.Author.Tests.{ltb-false}
use lib.Dec.{ltb}
use lib.IntN.{ℤ}
use lib.ListN.{length}
use Rattle.plane.specs.Refusals.{refuse_if}
use Rattle.plane.specs.Sinks.{check_sinks}
use Rattle.plane.specs.declared.refusal.Refusal.TheVariants.{Room}
use Rattle.std.specs.Prelude.{Ok}
use Rattle.plane.proofs.Checks.{passed, both_pass, accepted}
use Rattle.nearest.specs.Calls.{check_nearest}
use Rattle.nearest.specs.Ready.{CanJoin}

pub sinks_fine : (xs ys : List ℤ) (delays : List ℕ) (room : ℕ) → check_nearest xs ys delays room ≡ Ok tt → check_sinks 512 xs ys delays ≡ Ok tt
unfolding check_nearest
sinks_fine xs ys delays room e = (both_pass (check_sinks 512 xs ys delays) (refuse_if (ltb room (2 * (length xs - 1))) Room (Ok tt)) e).0

pub ready : (xs ys : List ℤ) (delays js : List ℕ) → check_nearest xs ys delays (length js) ≡ Ok tt → CanJoin xs ys delays js
unfolding check_nearest
ready xs ys delays js e =
    let (p, q) = both_pass (check_sinks 512 xs ys delays) (refuse_if (ltb (length js) (2 * (length xs - 1))) Room (Ok tt)) e in
    let m = accepted 512 xs ys delays p in
    let (r, _) = passed (ltb (length js) (2 * (length xs - 1))) Room (Ok tt) q in
    record { ranged = m.ranged; some = m.some; few = m.few; room = ltb-false (length js) (2 * (length xs - 1)) r }
