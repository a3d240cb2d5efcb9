use mathlib.Core.Path.{◌∙◌}
use Prim.Native.Nat.{◌+◌, ◌*◌, ◌^◌, ◌≤◌}
use native.Mathlib.Omega.{arith}
use Rattle.lanes.proofs.Advancing.{advanced_end, advanced_opens, eight_blocks, advanced_more}
use Rattle.lanes.proofs.blocks.fill_blocks.Goals as goal

pub fill_block-requires : goal.fill_block-requires
fill_block-requires c =
    let a = c.args in
    let p = c.requires in
    let l = c.loop-h in
    let low : 8 * l.h + 8 ≤ 2 ^ a.n = omega (arith, eight_blocks a.n c.subsets-size.result p.0.many c.subsets-size.ensures.0) in
    advanced_opens a.n a.ds.now a.table.now p.0 l.h l.table l.rows l.invariant.1 low l.invariant.3 (omega (arith, p.1, l.invariant.2))

pub returns : goal.returns
returns c =
    let a = c.args in
    let l = c.loop-h in
    advanced_end a.n a.ds.now a.table.now l.table l.rows l.h (omega (arith, eight_blocks a.n c.subsets-size.result c.requires.0.many c.subsets-size.ensures.0)) l.invariant.3

pub put_rows-requires : goal.put_rows-requires
put_rows-requires c =
    let a = c.args in
    let p = c.requires in
    let l = c.loop-h in
    let low : 8 * l.h + 8 ≤ 2 ^ a.n = omega (arith, eight_blocks a.n c.subsets-size.result p.0.many c.subsets-size.ensures.0) in
    (omega (arith, c.fill_block.auto.table, l.invariant.1, p.0.room), omega (arith, p.1, l.invariant.2))

pub loop-h-preserved : goal.loop-h-preserved
loop-h-preserved c =
    let a = c.args in
    let p = c.requires in
    let l = c.loop-h in
    let low : 8 * l.h + 8 ≤ 2 ^ a.n = omega (arith, eight_blocks a.n c.subsets-size.result p.0.many c.subsets-size.ensures.0) in (
      omega arith,
      c.fill_block.auto.table ∙ l.invariant.1,
      c.put_rows.auto.rows ∙ l.invariant.2,
      advanced_more a.n a.ds.now a.table.now p.0 l.h l.table l.rows l.invariant.1 low l.invariant.3 c.fill_block.new.table c.put_rows.new.rows c.fill_block.ensures c.put_rows.ensures,
    )
