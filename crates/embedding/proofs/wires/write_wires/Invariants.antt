use lib.ListN.{length}
use Rattle.lists.proofs.Grow.{Filled}
use Rattle.orders.specs.Arrays.{wire_in}
use Rattle.embedding.proofs.wires.write_wires.Given as goal

abbrev pub invariant-loop-k : goal.invariant-loop-k
invariant-loop-k g z = Filled (λ l. wire_in z.n z.nodes (length l)) z.k z.initial.ws z.ws
