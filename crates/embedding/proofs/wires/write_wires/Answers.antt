use mathlib.Core.Path.{◌≡◌, sym, ap, ◌∙◌}
use Prim.Native.Nat.{ℕ, ◌-◌, ◌*◌}
use native.Mathlib.Omega.{arith}
use borrow.Author.Tests.{lt-ltb, le-ltb}
use lib.ListN.{get_or}
use Rattle.lists.proofs.Grow.{filled_more, filled_last, tab_at}
use Rattle.orders.specs.Arrays.{wire_in}
use Rattle.embedding.proofs.wires.write_wires.Goals as goal

pub loop-k-preserved : goal.loop-k-preserved
loop-k-preserved g c =
    let n = c.args.n in
    let ns = c.args.nodes.now in
    let k = c.loop-k.k in
    filled_more _ c.loop-k.invariant (omega arith)
    (ap (λ (p : ℕ). get_or ns.diameters p 0 - get_or ns.diameters k 0) c.from-p.ensures ∙ sym (tab_at (wire_in n ns) k ∙ rw (lt-ltb k (2 * n - 2) c.loop-k-test.true)))

pub returns : goal.returns
returns g c =
    let a = c.args in
    let m = 2 * a.n - 2 in
    let some = c.requires.0.some in
    let e : c.loop-k.k ≡ m = omega arith in
    filled_last m (2 * a.n - 1) 0 (rw e at c.loop-k.invariant) (omega arith) (omega arith) (omega arith)
    (sym (tab_at (wire_in a.n a.nodes.now) m ∙ rw (le-ltb m m (omega arith))))
