use native.Mathlib.Omega.{arith}
use lib.ListN.{get_or}
use lib.Seq.{get_or-set_same, get_or-set_other}
use Rattle.partners.proofs.Moving.{shifts_begin, shifts_turn}
use Rattle.partners.proofs.live.up.Goals as goal

pub loop-t-init : goal.loop-t-init
loop-t-init g c = shifts_begin (λ s. get_or c.args.live.now s 0) c.args.from

pub loop-t-preserved : goal.loop-t-preserved
loop-t-preserved g c =
    let l = c.loop-t in
    shifts_turn l.invariant l.auto.t (omega arith) (get_or-set_same l.live l.t _ 0 (omega arith)) (λ s h n. get_or-set_other l.live l.t s _ 0 n)
