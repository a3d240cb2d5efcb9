use mathlib.Core.Path.{sym, ◌∙◌}
use Prim.Native.Nat.{◌<◌}
use native.Mathlib.Omega.{arith}
use lib.ListN.{get_or}
use Rattle.splits.proofs.Fours.{all_least, all_none}
use Rattle.lanes.specs.Sums.{beyond}
use Rattle.splits.proofs.fill.examine_all.Goals as goal

pub returns-then-rest-eq0 : goal.returns-then-rest-eq0
returns-then-rest-eq0 c =
    let a = c.args in
    all_none a.d a.table.now a.s (get_or a.table.now a.s 0) c.requires.0 (sym c.beyond-rest.ensures ∙ c.if-rest-eq0.true)

pub returns : goal.returns
returns c =
    let a = c.args in
    let m : 0 < beyond a.s = omega (arith, c.beyond-rest.ensures) in
    omega (arith, all_least a.d a.table.now a.s (get_or a.table.now a.s 0) c.requires.0 m, c.least_parts.ensures.1)
