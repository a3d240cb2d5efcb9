use Rattle.orders.specs.Table.{Sinked}
use Rattle.orders.proofs.table.put_sinks.Given as goal

abbrev pub invariant-loop-i : goal.invariant-loop-i
invariant-loop-i l = Sinked l.sinks.xs.now l.sinks.ys.now l.sinks.delays.now l.i l.bs
