use Rattle.orders.specs.Arrays.{PutsOwn}
use Rattle.orders.proofs.nodes.put_own.Given as goal

abbrev pub invariant-loop-i : goal.invariant-loop-i
invariant-loop-i l = PutsOwn l.delays l.i l.sum l.ds
