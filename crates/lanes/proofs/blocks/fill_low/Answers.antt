use native.Mathlib.Omega.{arith}
use Rattle.lanes.proofs.Opening.{entry_fits, entry_is, group_at, next_more}
use mathlib.Core.Path.{◌≡◌}
use mathlib.Core.List.{foldl, map}
use Prim.Native.Nat.{◌+◌, ◌*◌}
use lib.ListN.{set}
use Rattle.subsets.specs.Square.{held}
use Rattle.subsets.specs.Subsets.{splits}
use Rattle.subsets.specs.Table.{pair_up, step_of}
use Rattle.lanes.proofs.blocks.fill_low.Goals as goal

pub overflow_add-table : goal.overflow_add-table
overflow_add-table c =
    let a = c.args in
    let p = c.requires in
    let g = group_at a.low p.1 in
    omega (arith, entry_fits a.ds.now a.table.now a.sums.now a.h a.low p.0 p.1 p.2 c.diameter.result c.least_lane.result c.least_low-least.result _ _ c.diameter.ensures g.0 g.1 c.least_lane.ensures c.least_low-least.ensures)

pub returns : goal.returns
returns c =
    let a = c.args in
    let p = c.requires in
    let g = group_at a.low p.1 in
    let v = c.diameter.result + c.least_low-least.result in
    let e : set a.table.now (8 * a.h + a.low) v ≡ foldl (step_of (held a.ds.now)) a.table.now (map (pair_up (8 * a.h + a.low)) (splits (8 * a.h + a.low))) =
    entry_is a.ds.now a.table.now a.sums.now a.h a.low p.0 p.1 p.2 c.diameter.result c.least_lane.result c.least_low-least.result _ _ c.diameter.ensures g.0 g.1 c.least_lane.ensures c.least_low-least.ensures in
    record { next = next_more a.ds.now a.table.now (set a.table.now (8 * a.h + a.low) v) a.sums.now a.h a.low p.0 p.1 e; table_after = e }
