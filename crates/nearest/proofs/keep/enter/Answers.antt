use Rattle.partners.proofs.Entering.{entered}
use Rattle.nearest.proofs.keep.enter.Goals as goal

pub returns : goal.returns
returns c = entered c.hold.ensures.first c.seat.ensures
