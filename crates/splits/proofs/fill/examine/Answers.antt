use mathlib.Core.Path.{sym, ap, ◌∙◌}
use mathlib.Core.List.{foldl}
use Prim.Native.Nat.{ℕ, ◌≤◌, ◌-◌}
use native.Mathlib.Omega.{arith}
use lib.ListN.{get_or, length}
use lib.Seq.{take_all}
use Rattle.subsets.specs.Subsets.{splits}
use Rattle.subsets.specs.Table.{better_at}
use Rattle.splits.proofs.fill.examine.Goals as goal

pub returns : goal.returns
returns c =
    let a = c.args in
    let h : length (splits a.s) ≤ a.budget = omega (arith, c.split_count-all.ensures) in (
      ap (λ (k : ℕ). a.budget - k) c.split_count-all.ensures,
      c.examine_all.ensures ∙ ap (foldl (better_at a.d a.table.now a.s) (get_or a.table.now a.s 0)) (sym (take_all a.budget (splits a.s) h)),
    )
