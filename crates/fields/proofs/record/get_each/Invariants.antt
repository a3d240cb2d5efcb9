use Prim.Native.Nat.{◌+◌, ◌*◌}
use lib.ListN.{length}
use Rattle.lists.proofs.Grow.{Filled}
use Rattle.fields.specs.Bytes.{number_at}
use Rattle.fields.proofs.record.get_each.Given as goal

abbrev pub invariant-loop-i : goal.invariant-loop-i
invariant-loop-i g z = Filled (λ l. g.T.Number.made (number_at g.T.Number.SIZE z.v (z.size * length l + z.from))) z.i z.initial.ns z.ns
