use mathlib.Core.Path.{sym, ◌∙◌}
use Prim.Native.Nat.{◌+◌, ◌*◌}
use native.Mathlib.Omega.{arith}
use lib.ListN.{length}
use Rattle.lists.proofs.Grow.{filled_more, tab_at}
use Rattle.fields.specs.Bytes.{number_at}
use Rattle.fields.proofs.record.get_each.Goals as goal

pub loop-i-preserved : goal.loop-i-preserved
loop-i-preserved g c =
    let a = c.args in
    let l = c.loop-i in
    filled_more {f = λ m. g.T.Number.made (number_at g.T.Number.SIZE a.v.now (a.size * length m + a.from))} _ l.invariant (omega arith) (c.read.ensures ∙ sym (tab_at (λ i. g.T.Number.made (number_at g.T.Number.SIZE a.v.now (a.size * i + a.from))) l.i))
