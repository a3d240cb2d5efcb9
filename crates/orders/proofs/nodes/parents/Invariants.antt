use mathlib.Core.Path.{◌≡◌}
use Prim.Native.Nat.{ℕ, ◌+◌, ◌/◌, ◌<◌}
use lib.ListN.{length, get_or}
use Rattle.orders.proofs.nodes.parents.Given as goal

abbrev pub invariant-loop-j : goal.invariant-loop-j
invariant-loop-j l = (length l.ps ≡ 1023) × ((i : ℕ) → i < l.j → get_or l.ps (get_or l.js i 0) 0 ≡ l.n + i / 2)
