use mathlib.Core.Path.{ap, ◌∙◌}
use native.Mathlib.Omega.{arith}
use Rattle.subsets.specs.Square.{held}
use Rattle.subsets.proofs.Filling.{fill_start, fill_end, fill_turn}
use Prim.Native.Nat.{min}
use Rattle.subsets.proofs.Counting.{steps_count}
use Rattle.splits.proofs.fill.fill_some.Goals as goal

pub loop-s-init : goal.loop-s-init
loop-s-init c = (omega arith, fill_start (held c.args.ds.now) c.args.n c.args.budget c.args.table.now)

pub loop-s-preserved : goal.loop-s-preserved
loop-s-preserved c =
    let l = c.loop-s in
    let f = c.fill_subset-left in
    let a = c.args in (
      omega (arith, f.ensures.value, l.invariant.0),
      fill_turn (held a.ds.now) a.n a.budget a.table.now l.s l.left f.result l.table f.new.table (omega arith) l.invariant.1 f.ensures.value f.ensures.table_after,
    )

pub returns : goal.returns
returns c =
    let l = c.loop-s in
    let a = c.args in
    let e = fill_end (held a.ds.now) a.n a.budget a.table.now l.s l.left l.table (omega arith) l.invariant.1 in
    record { value = e.0 ∙ ap (min a.budget) (steps_count a.n); table_after = e.1 }
