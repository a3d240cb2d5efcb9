use mathlib.Core.Path.{◌∙◌}
use native.Mathlib.Omega.{arith}
use Rattle.lanes.proofs.Turning.{lanewise_end, lanewise_start, lanewise_turn}
use Rattle.lanes.proofs.lanes.lane_sums.Goals as goal

pub loop-other-init : goal.loop-other-init
loop-other-init c =
    let o = c.of-other-items.ensures in
    rw c.into_iter-other-iterator.ensures.into_iter_gives (o.0 ∙ c.beyond.ensures, rw o.1 (lanewise_start c.told-sums c.requires.0 c.beyond.ensures))

pub returns : goal.returns
returns c = lanewise_end c.loop-other.invariant.1 c.in-None.ensures.steps

pub loop-other-preserved : goal.loop-other-preserved
loop-other-preserved c =
    let i = c.loop-other.invariant in
    let s = c.in-Some.ensures.steps in
    (s.2 ∙ i.0, rw s.3 (lanewise_turn c.requires.0 i.0 s.0 i.1 (omega arith) (omega arith) c.meet.array_long c.meet.ensures))
