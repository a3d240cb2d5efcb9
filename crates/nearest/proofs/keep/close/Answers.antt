use mathlib.Core.Path.{refl, ◌∙◌}
use Prim.Native.Nat.{◌-◌}
use native.Mathlib.Omega.{arith}
use lib.ListN.{length}
use lib.Seq.{get_or-set_same, get_or-set_other}
use Rattle.partners.proofs.Moving.{both_left}
use Rattle.nearest.proofs.keep.close.Goals as goal

pub returns : goal.returns
returns c =
    let s = c.args in
    let k = length s.live.now in
    let live2 = c.up-2.new.live in
    record {
      nodes = λ t h. get_or-set_other live2 (k - 2) t s.m 0 (λ e. omega (arith, e)) ∙ both_left s.c.row s.c.with k c.requires.1 (omega arith) (λ i l. refl) (λ i l g. refl) c.up.ensures c.up-2.ensures t h;
      last = get_or-set_same live2 (k - 2) s.m 0 (omega (arith, c.requires.1, c.requires.2, c.up-2.auto.live, c.up.auto.live));
      enters = c.close_rows.ensures;
    }
