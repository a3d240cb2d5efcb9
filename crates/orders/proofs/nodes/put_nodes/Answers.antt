use native.Mathlib.Omega.{arith}
use Rattle.orders.proofs.Upward.{up_begin, joins_made}
use Rattle.orders.proofs.Summed.{net_less, net_low, net}
use Rattle.orders.proofs.nodes.put_nodes.Goals as goal

pub put_joins-sum-requires : goal.put_joins-sum-requires
put_joins-sum-requires c =
    let r = c.requires.1 in (
      c.requires.0.joins,
      up_begin c.requires.0.sinks.delayed
          (record { boxes = omega (arith, r.boxes, c.put_sinks.auto.bs); diameters = omega (arith, r.diameters, c.put_own-own.auto.ds); parents = r.parents })
          c.put_own-own.ensures c.put_sinks.ensures,
    )

pub overflow_sub-result : goal.overflow_sub-result
overflow_sub-result c = net_less c.requires.0 c.put_sinks.ensures c.put_own-own.ensures c.put_joins-sum.ensures c.from.ensures

pub overflow_cast-result : goal.overflow_cast-result
overflow_cast-result c = net_low c.requires.0 c.put_sinks.ensures c.put_own-own.ensures c.put_joins-sum.ensures c.from.ensures

pub returns : goal.returns
returns c = (joins_made c.requires.0 c.put_sinks.ensures c.put_joins-sum.ensures, net c.requires.0 c.put_sinks.ensures c.put_own-own.ensures c.put_joins-sum.ensures c.from.ensures)
