use Prim.Native.Nat.{ℕ, ◌-◌}
use native.Mathlib.Omega.{arith}
use lib.ListN.{get_or}
use Rattle.lanes.specs.Blocks.{least_with}
use Rattle.subsets.specs.Subsets.{rising}
use Rattle.lanes.proofs.Filled.{lane_end, lane_turn}
use Rattle.lanes.proofs.lanes.least_lane.Goals as goal

pub loop-k-preserved : goal.loop-k-preserved
loop-k-preserved c =
    let a = c.args in
    let l = c.loop-k in
    (omega arith, omega arith, lane_turn a.sums.now a.end l.k l.least c.smaller-least.result (least_with (λ (j : ℕ). get_or a.sums.now j 0) 4294967295 (rising (a.end - a.from) a.from)) (omega arith) c.smaller-least.ensures l.invariant.2)

pub returns : goal.returns
returns c =
    let a = c.args in
    let l = c.loop-k in
    lane_end a.sums.now a.end l.k l.least (least_with (λ (j : ℕ). get_or a.sums.now j 0) 4294967295 (rising (a.end - a.from) a.from)) (omega arith) l.invariant.2
