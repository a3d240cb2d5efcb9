use mathlib.Core.Path.{◌≡◌, ap, ◌∙◌}
use Prim.Native.Nat.{ℕ, ◌+◌, ◌-◌, min}
use lib.Bits.{bit_and}
use lib.ListN.{get_or}
use Rattle.lanes.specs.Blocks.{least_with, parts_to, split_off_lane}
use Rattle.subsets.proofs.Digits.{sub_and}
use Rattle.lanes.proofs.Filled.{low_end, low_turn}
use Rattle.lanes.proofs.lanes.least_low.Goals as goal

pub loop-part-preserved : goal.loop-part-preserved
loop-part-preserved c =
    let a = c.args in
    let l = c.loop-part in
    let i = l.invariant in
    let k = l.part-iterator.next in
    let s = c.in-Some.ensures.steps in
    let e : c.next.new.self.next ≡ bit_and (k - 1) a.low = s.3 ∙ ap (bit_and (k - 1)) i.0 in (
      s.2 ∙ i.0,
      rw e (sub_and a.low (k - 1)),
      rw e (low_turn a.table.now a.s a.low k l.least c.smaller-least.result (least_with (split_off_lane a.table.now a.s) a.v (parts_to a.low a.low)) s.0 i.1
          (c.smaller-least.ensures ∙ ap (λ (x : ℕ). min l.least (get_or a.table.now (a.s - x) 0 + get_or a.table.now x 0)) s.1) i.2),
    )

pub returns : goal.returns
returns c =
    let a = c.args in
    let l = c.loop-part in
    low_end a.table.now a.s a.low l.part-iterator.next l.least (least_with (split_off_lane a.table.now a.s) a.v (parts_to a.low a.low)) c.in-None.ensures.steps l.invariant.2
