use Prim.Native.Nat.{◌+◌, ◌-◌, ◌/◌}
use native.Mathlib.Omega.{arith}
use Rattle.partners.proofs.Halving.{halves_begin, halves_more, halves_less, halves_hit, halves_miss}
use Rattle.partners.proofs.live.place.Goals.{else-lo-live-via-then-lo-live+else-live-lo, else-lo-live-via-else-lo-live}
use Rattle.partners.proofs.live.place.Goals as goal

pub loop-lo-init : goal.loop-lo-init
loop-lo-init c = halves_begin c.args.live.now c.args.x

pub loop-lo-preserved-then-live-mid : goal.loop-lo-preserved-then-live-mid
loop-lo-preserved-then-live-mid c = let l = c.loop-lo in halves_more (l.lo + (l.hi - l.lo) / 2) c.requires l.invariant (omega arith) c.if-live-mid.true

pub loop-lo-preserved : goal.loop-lo-preserved
loop-lo-preserved c = let l = c.loop-lo in halves_less (l.lo + (l.hi - l.lo) / 2) c.requires l.invariant (omega arith) (omega arith) c.if-live-mid.false

pub returns-then-live-lo : goal.returns-then-live-lo
returns-then-live-lo c = halves_hit c.args.live.now c.args.x c.loop-lo.invariant c.loop-lo-test.false c.if-lo-live.true c.if-live-lo.true

pub returns-else-lo-live : goal.returns-else-lo-live
returns-else-lo-live c =
    halves_miss c.args.live.now c.args.x c.loop-lo.invariant c.loop-lo-test.false c.requires
    (λ h q. elim c.else-lo-live.branch [ else-lo-live-via-then-lo-live+else-live-lo w ↦ w.if-live-lo.false q | else-lo-live-via-else-lo-live w ↦ absurd (omega (arith, w.if-lo-live.false)) ])
