use mathlib.Core.Path.{refl}
use Rattle.nearest.proofs.Going.{right_sink}
use Rattle.nearest.proofs.keep.begin.Goals as goal

pub loop-i-preserved : goal.loop-i-preserved
loop-i-preserved c =
    let l = c.loop-i in
    right_sink l.i _ l.rows c.enter.new.rows l.invariant refl c.enter.ensures
