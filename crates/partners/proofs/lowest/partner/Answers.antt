use native.Mathlib.Omega.{arith}
use Rattle.partners.proofs.Leasts.{nearest_first}
use Rattle.partners.proofs.lowest.partner.Goals as goal

pub returns : goal.returns
returns c = (nearest_first c.args.live.now c.box_in-b.ensures c.spans.ensures c.first_least.result (omega arith) (omega arith) c.first_least.ensures, c.spans.ensures.same)
