use mathlib.Core.Path.{◌≡◌, sym, ap, ◌∙◌}
use mathlib.Core.List.{map}
use native.Mathlib.Omega.{arith}
use lib.ListN.{length, get_or, length-map}
use Rattle.std.proofs.lemmas.List.{get_or-map}
use Rattle.fields.specs.Bytes.{big}
use Rattle.fields.specs.Fields.{numbers, records}
use Rattle.fields.proofs.BigEndian.{length-big}
use Rattle.fields.proofs.Stores.{record_room, record_more}
use Rattle.text.proofs.Written.{nothing}
use Rattle.fields.proofs.record.put_each.Goals as goal

pub loop-n-init : goal.loop-n-init
unfolding records
loop-n-init g c = nothing

pub put-requires : goal.put-requires
unfolding numbers
put-requires g c =
    let w = g.T.Number.SIZE in
    let f = g.T.Number.whole in
    let ns = c.args.ns.now in
    let e = ap f c.n-item.is ∙ sym (get_or-map f ns c.loop-n.n-index c.n-item.result 0 c.loop-n-test.true) in
    rw e (record_room (λ j. big w (get_or (map f ns) j 0)) _ w (λ j. length-big w (get_or (map f ns) j 0)) (rw length-map c.loop-n-test.true) c.requires c.loop-n.invariant)

pub loop-n-preserved : goal.loop-n-preserved
loop-n-preserved g c =
    let w = g.T.Number.SIZE in
    let f = g.T.Number.whole in
    let ns = c.args.ns.now in
    let e = ap f c.n-item.is ∙ sym (get_or-map f ns c.loop-n.n-index c.n-item.result 0 c.loop-n-test.true) in
    record_more (λ j. big w (get_or (map f ns) j 0)) c.loop-n.invariant (rw e at c.put.ensures)

pub returns : goal.returns
unfolding numbers
returns g c =
    let e : c.loop-n.n-index ≡ length (map g.T.Number.whole c.args.ns.now) = rw length-map (omega arith) in
    rw e at c.loop-n.invariant
