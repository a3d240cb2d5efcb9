use native.Mathlib.Omega.{arith}
use Rattle.lanes.proofs.Turning.{turning_end, turning_more}
use Rattle.lanes.proofs.lanes.meet.Goals as goal

pub loop-k-preserved : goal.loop-k-preserved
loop-k-preserved c = turning_more c.loop-k.invariant c.loop-k-test.true c.smaller.ensures

pub returns : goal.returns
returns c = turning_end c.loop-k.invariant (omega arith)
