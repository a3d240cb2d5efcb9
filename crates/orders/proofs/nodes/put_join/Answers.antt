use Rattle.orders.proofs.Upward.{puts_join}
use Rattle.orders.proofs.nodes.put_join.Goals as goal

pub returns : goal.returns
returns c = puts_join c.requires.0 c.requires.1 c.requires.2 c.from-a.ensures c.from-b.ensures c.hull-c.ensures c.breadth-d.ensures
