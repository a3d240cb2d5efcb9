use mathlib.Core.Path.{◌≡◌, ap, ◌∙◌}
use Prim.Native.Nat.{ℕ, ◌≤◌, ◌^◌, ◌-◌}
use native.Mathlib.Omega.{arith}
use lib.ListN.{length-take}
use lib.Count.{ones, ones-ones}
use lib.Pow.{pow_mono}
use Rattle.subsets.specs.Square.{held}
use Rattle.subsets.proofs.KeptJoins.{kept_written}
use Rattle.search.proofs.kept.write_kept.Goals as goal

pub joins-requires : goal.joins-requires
joins-requires c =
    let g : 2 ≤ 2 ^ c.args.n = pow_mono {i = 1} {j = c.args.n} (omega arith) in
    let o : ones (c.subsets-all.result - 1) ≡ c.args.n = ap (λ (x : ℕ). ones (x - 1)) c.subsets-all.ensures.0 ∙ ones-ones c.args.n in (
      c.requires.0,
      c.requires.1,
      omega arith,
      omega (arith, c.subsets-all.ensures.2),
      omega (arith, length-take c.subsets-all.result c.args.table.now),
      omega (arith, o),
      omega (arith, o),
    )

pub returns : goal.returns
returns c =
    kept_written (held c.args.ds.now) c.args.n c.subsets-all.result c.args.table.now c.args.js.now c.joins.new.out
    c.requires.0 c.requires.1 c.subsets-all.ensures.0 c.requires.3 c.joins.ensures.out_after
