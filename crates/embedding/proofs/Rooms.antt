-- An accepted check of the lent buffers says that each has room.
use mathlib.Core.Path.{◌≡◌}
use Prim.Native.Nat.{ℕ, ◌≤◌}
use borrow.Author.Tests.{ltb-false}
use lib.Dec.{ltb}
use Rattle.plane.proofs.Checks.{passed}
use Rattle.plane.specs.declared.refusal.Refusal.TheVariants.{Room}
use Rattle.std.specs.Prelude.{Ok}
use Rattle.embedding.specs.Embedding.{check_room}

pub has_room : (m ru rv rw : ℕ) → check_room m ru rv rw ≡ Ok tt → (m ≤ ru) × (m ≤ rv) × (m ≤ rw)
has_room m ru rv rw e =
    let (a, p) = passed (ltb ru m) Room _ e in
    let (b, q) = passed (ltb rv m) Room _ p in
    let (c, _) = passed (ltb rw m) Room _ q in
    (ltb-false ru m a, ltb-false rv m b, ltb-false rw m c)
