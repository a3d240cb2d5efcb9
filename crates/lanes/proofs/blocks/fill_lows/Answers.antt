use mathlib.Core.Path.{◌≡◌, ◌∙◌}
use native.Mathlib.Omega.{arith}
use Rattle.lanes.proofs.Opening.{more_low}
use mathlib.Core.List.{foldl}
use Prim.Native.Nat.{ℕ, ◌+◌, ◌*◌}
use Rattle.subsets.specs.Square.{held}
use Rattle.subsets.specs.Subsets.{rising}
use Rattle.subsets.specs.Table.{step_of, steps_of}
use Rattle.subsets.proofs.Runs.{run_one, run_snoc}
use Rattle.lanes.proofs.blocks.fill_lows.Goals as goal

pub fill_low-requires : goal.fill_low-requires
fill_low-requires c = (c.requires, omega arith, more_low c.args.h 1 c.requires.block.some (omega arith) (omega arith))

pub fill_low-requires-2 : goal.fill_low-requires-2
fill_low-requires-2 c = (c.fill_low.ensures.next, omega arith, more_low c.args.h 2 c.requires.block.some (omega arith) (omega arith))

pub fill_low-requires-3 : goal.fill_low-requires-3
fill_low-requires-3 c = (c.fill_low-2.ensures.next, omega arith, more_low c.args.h 3 c.requires.block.some (omega arith) (omega arith))

pub fill_low-requires-4 : goal.fill_low-requires-4
fill_low-requires-4 c = (c.fill_low-3.ensures.next, omega arith, more_low c.args.h 4 c.requires.block.some (omega arith) (omega arith))

pub fill_low-requires-5 : goal.fill_low-requires-5
fill_low-requires-5 c = (c.fill_low-4.ensures.next, omega arith, more_low c.args.h 5 c.requires.block.some (omega arith) (omega arith))

pub fill_low-requires-6 : goal.fill_low-requires-6
fill_low-requires-6 c = (c.fill_low-5.ensures.next, omega arith, more_low c.args.h 6 c.requires.block.some (omega arith) (omega arith))

pub fill_low-requires-7 : goal.fill_low-requires-7
fill_low-requires-7 c = (c.fill_low-6.ensures.next, omega arith, more_low c.args.h 7 c.requires.block.some (omega arith) (omega arith))

pub returns : goal.returns
returns c =
    let a = c.args in
    let δ : ℕ → ℕ = held a.ds.now in
    let s : ℕ = 8 * a.h + 1 in
    let e1 : c.fill_low.new.table ≡ foldl (step_of δ) a.table.now (steps_of (rising 1 s)) = c.fill_low.ensures.table_after ∙ run_one δ s a.table.now in
    let e2 : c.fill_low-2.new.table ≡ foldl (step_of δ) a.table.now (steps_of (rising 2 s)) = run_snoc δ 1 s (8 * a.h + 2) a.table.now c.fill_low.new.table c.fill_low-2.new.table (omega arith) e1 c.fill_low-2.ensures.table_after in
    let e3 : c.fill_low-3.new.table ≡ foldl (step_of δ) a.table.now (steps_of (rising 3 s)) = run_snoc δ 2 s (8 * a.h + 3) a.table.now c.fill_low-2.new.table c.fill_low-3.new.table (omega arith) e2 c.fill_low-3.ensures.table_after in
    let e4 : c.fill_low-4.new.table ≡ foldl (step_of δ) a.table.now (steps_of (rising 4 s)) = run_snoc δ 3 s (8 * a.h + 4) a.table.now c.fill_low-3.new.table c.fill_low-4.new.table (omega arith) e3 c.fill_low-4.ensures.table_after in
    let e5 : c.fill_low-5.new.table ≡ foldl (step_of δ) a.table.now (steps_of (rising 5 s)) = run_snoc δ 4 s (8 * a.h + 5) a.table.now c.fill_low-4.new.table c.fill_low-5.new.table (omega arith) e4 c.fill_low-5.ensures.table_after in
    let e6 : c.fill_low-6.new.table ≡ foldl (step_of δ) a.table.now (steps_of (rising 6 s)) = run_snoc δ 5 s (8 * a.h + 6) a.table.now c.fill_low-5.new.table c.fill_low-6.new.table (omega arith) e5 c.fill_low-6.ensures.table_after in
    run_snoc δ 6 s (8 * a.h + 7) a.table.now c.fill_low-6.new.table c.fill_low-7.new.table (omega arith) e6 c.fill_low-7.ensures.table_after
