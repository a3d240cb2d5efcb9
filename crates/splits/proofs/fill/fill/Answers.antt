use Prim.Native.Nat.{ℕ, ◌^◌, ◌≤◌}
use native.Mathlib.Omega.{arith}
use lib.Pow.{pow_mono}
use lib.ListN.{take}
use lib.Seq.{take_all}
use Rattle.lanes.proofs.Advancing.{begun, all_blocks, filled_all}
use mathlib.Core.Path.{◌≡◌, ap, ◌∙◌}
use mathlib.Core.List.{List, foldl}
use Rattle.subsets.specs.Best.{step_count}
use Rattle.subsets.specs.Square.{held}
use Rattle.subsets.specs.Table.{step_of, steps}
use Rattle.subsets.proofs.Counting.{steps_count}
use Rattle.subsets.proofs.Filling.{filled_is}
use Rattle.splits.proofs.fill.fill.Goals as goal

-- the steps of three sinks are all that a budget of as many takes
first_three : (δ : ℕ → ℕ) (t t2 : List ℕ) (k : ℕ) → k ≡ step_count 3 → t2 ≡ foldl (step_of δ) t (take k (steps 3)) → t2 ≡ foldl (step_of δ) t (steps 3)
first_three δ t t2 k e f = f ∙ ap (foldl (step_of δ) t) (take_all k (steps 3) (omega (arith, e, steps_count 3)))

pub fill_some-requires-2 : goal.fill_some-requires-2
fill_some-requires-2 c =
    let e : 8 ≤ 2 ^ c.args.n = pow_mono {i = 3} {j = c.args.n} (omega arith) in
    (omega arith, omega (arith, c.clear.auto.table, c.requires.1))

pub fill_rest-requires : goal.fill_rest-requires
fill_rest-requires c =
    let a = c.args in
    let f = c.fill_some-2 in
    let three = first_three (held a.ds.now) c.clear.new.table f.new.table c.all_steps.result c.all_steps.ensures f.ensures.table_after in
    begun a.n a.ds.now a.table.now c.clear.new.table f.new.table (omega arith) c.clear.ensures three c.requires.0 c.requires.2

pub returns : goal.returns
returns c =
    let a = c.args in
    let f = c.fill_some-2 in
    let three = first_three (held a.ds.now) c.clear.new.table f.new.table c.all_steps.result c.all_steps.ensures f.ensures.table_after in
    let t : c.fill_rest.new.table ≡ foldl (step_of (held a.ds.now)) c.clear.new.table (steps a.n) =
    all_blocks a.n a.ds.now a.table.now c.clear.new.table f.new.table (omega arith) c.clear.ensures three c.fill_rest.new.table c.fill_rest.ensures in
    record { value = omega arith; table_after = filled_all (held a.ds.now) a.n a.budget a.table.now c.clear.new.table c.fill_rest.new.table (omega arith) c.clear.ensures t }

pub returns-then-n-le3-clause-table_after : goal.returns-then-n-le3-clause-table_after
returns-then-n-le3-clause-table_after c =
    let a = c.args in
    filled_is (held a.ds.now) a.n a.budget a.table.now c.clear.new.table c.fill_some.new.table c.clear.ensures c.fill_some.ensures.table_after
