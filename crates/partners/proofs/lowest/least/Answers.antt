use native.Mathlib.Omega.{arith}
use Rattle.partners.proofs.Leasts.{sofar_begin, sofar_turn, sofar_end}
use Rattle.partners.proofs.lowest.least.Goals as goal

pub loop-e-init : goal.loop-e-init
loop-e-init c = sofar_begin c.args.ds.now c.requires

pub loop-e-preserved : goal.loop-e-preserved
loop-e-preserved c = rw c.min-d.ensures (sofar_turn c.loop-e.invariant c.loop-e-test.true)

pub returns : goal.returns
returns c = sofar_end c.loop-e.invariant (omega arith)
