use mathlib.Core.Path.{◌≡◌}
use Prim.Native.Nat.{◌-◌, ◌*◌}
use lib.ListN.{length}
use Rattle.lists.proofs.First.{Seek}
use Rattle.orders.specs.Joins.{bad_pair}
use Rattle.orders.proofs.Flags.{Flags}
use Rattle.orders.proofs.joins.first_bad.Given as goal

abbrev pub invariant-loop-i : goal.invariant-loop-i
invariant-loop-i l = (length l.named ≡ 1023) × Seek (bad_pair l.n l.js) (l.n - 1) l.i × Flags l.js (2 * l.i) l.named
