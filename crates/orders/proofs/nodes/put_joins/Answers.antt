use Rattle.orders.proofs.Upward.{joins_more}
use Rattle.orders.proofs.nodes.put_joins.Goals as goal

pub loop-i-preserved : goal.loop-i-preserved
loop-i-preserved c = rw c.from-sum.ensures (joins_more c.loop-i-test.true c.loop-i.invariant c.put_join.ensures)
