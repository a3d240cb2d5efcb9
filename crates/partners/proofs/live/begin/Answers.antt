use mathlib.Core.Path.{sym}
use native.Mathlib.Omega.{arith}
use Rattle.lists.proofs.Grow.{filled_begin, filled_more, filled_all, length-up_to}
use Rattle.partners.proofs.live.begin.Goals as goal

pub loop-t-init : goal.loop-t-init
loop-t-init c = filled_begin

pub loop-t-preserved : goal.loop-t-preserved
loop-t-preserved c = let l = c.loop-t in filled_more l.t l.invariant (omega (arith, l.invariant.size)) (sym (length-up_to l.t))

pub returns : goal.returns
returns c = let v = c.loop-t.invariant in filled_all v (omega (arith, v.size))
