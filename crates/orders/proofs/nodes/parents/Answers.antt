use mathlib.Core.Path.{refl}
use native.Mathlib.Omega.{arith}
use lib.ListN.{length-set}
use Rattle.orders.proofs.Parents.{entry_small, parents_more, parents_done}
use Rattle.orders.proofs.nodes.parents.Goals as goal

pub bounds-ps-from : goal.bounds-ps-from
bounds-ps-from c = entry_small c.args.n c.args.js.now c.requires c.loop-j.j c.from.ensures c.loop-j-test.true

pub loop-j-preserved : goal.loop-j-preserved
loop-j-preserved c =
    let a = c.args in
    let o = c.requires in
    let j = c.loop-j.j in
    let small = entry_small a.n a.js.now o j c.from.ensures c.loop-j-test.true in
    let v = c.loop-j.invariant in
    (simp length-set v.0, parents_more a.n a.js.now o c.loop-j.ps j c.from.result _ (omega (arith, c.loop-j-test.true, o.valid.count)) c.from.ensures (omega (arith, v.0)) refl v.1)

pub returns : goal.returns
returns c =
    let o = c.requires in
    parents_done c.args.n c.args.js.now o c.loop-j.ps (λ i h. c.loop-j.invariant.1 i (omega (arith, o.valid.count, c.loop-j-test.false)))
