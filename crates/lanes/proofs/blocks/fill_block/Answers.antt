use mathlib.Core.Path.{◌≡◌, ◌∙◌}
use mathlib.Core.List.{foldl, map}
use Prim.Native.Nat.{◌+◌, ◌*◌}
use native.Mathlib.Omega.{arith}
use lib.ListN.{get_or-replicate, replicate}
use Rattle.lanes.specs.Blocks.{Next}
use Rattle.subsets.specs.Square.{held}
use Rattle.subsets.specs.Subsets.{splits}
use Rattle.subsets.specs.Table.{pair_up, step_of}
use Rattle.lanes.proofs.Opening.{block_is, lanes_start, more_high, next_more, single_step}
use Rattle.lanes.proofs.blocks.fill_block.Goals as goal
use Rattle.lanes.proofs.blocks.fill_block.Goals.{then-beyond-ne0, else-beyond-ne0}

pub fill_low-requires : goal.fill_low-requires
fill_low-requires c =
    let a = c.args in
    let p = c.requires in
    let s = c.lane_sums in
    -- the block and its lanes
    let opened : Next a.ds.now a.table.now s.new.sums a.h 0 = record {
      block = p.block;
      lanes = lanes_start a.table.now a.rows.now (replicate 28 4294967295) s.new.sums a.h p.block.some s.array_long (λ k h. get_or-replicate 28 k 4294967295 0 h) p.dealt s.ensures;
    } in
    (opened, omega arith, more_high a.h c.beyond.result p.block.some c.beyond.ensures (omega arith))

pub fill_lows-requires : goal.fill_lows-requires
fill_lows-requires c =
    let a = c.args in
    let p = c.requires in
    let s = c.lane_sums in
    -- the block and its lanes
    let opened : Next a.ds.now a.table.now s.new.sums a.h 0 = record {
      block = p.block;
      lanes = lanes_start a.table.now a.rows.now (replicate 28 4294967295) s.new.sums a.h p.block.some s.array_long (λ k h. get_or-replicate 28 k 4294967295 0 h) p.dealt s.ensures;
    } in
    -- the steps of the high sinks alone are taken
    let high : c.if-beyond-ne0.table ≡ foldl (step_of (held a.ds.now)) a.table.now (map (pair_up (8 * a.h + 0)) (splits (8 * a.h + 0))) =
    elim c.if-beyond-ne0.branch [
      | then-beyond-ne0 w ↦ w.table-is ∙ w.fill_low.ensures.table_after
      | else-beyond-ne0 w ↦ w.table-is ∙ single_step (held a.ds.now) a.table.now a.h c.beyond.result p.block.some c.beyond.ensures w.if-beyond-ne0.false
    ] in
    next_more a.ds.now a.table.now c.if-beyond-ne0.table s.new.sums a.h 0 opened (omega arith) high

pub returns : goal.returns
returns c =
    let a = c.args in
    -- the steps of the high sinks alone are taken
    let high : c.if-beyond-ne0.table ≡ foldl (step_of (held a.ds.now)) a.table.now (map (pair_up (8 * a.h + 0)) (splits (8 * a.h + 0))) =
    elim c.if-beyond-ne0.branch [
      | then-beyond-ne0 w ↦ w.table-is ∙ w.fill_low.ensures.table_after
      | else-beyond-ne0 w ↦ w.table-is ∙ single_step (held a.ds.now) a.table.now a.h c.beyond.result c.requires.block.some c.beyond.ensures w.if-beyond-ne0.false
    ] in
    block_is (held a.ds.now) a.table.now c.if-beyond-ne0.table c.fill_lows.new.table a.h high c.fill_lows.ensures
