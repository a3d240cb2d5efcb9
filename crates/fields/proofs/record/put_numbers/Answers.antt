use mathlib.Core.Path.{◌≡◌}
use mathlib.Core.List.{map}
use Prim.Native.Nat.{◌*◌}
use lib.ListN.{length}
use Rattle.fields.specs.Fields.{numbers}
use Rattle.text.proofs.Written.{room_here, room_then}
use Rattle.fields.proofs.Values.{length_mapped}
use Rattle.fields.proofs.Stores.{field_parts, field_put}
use Rattle.fields.proofs.record.put_numbers.Goals as goal

pub put_header-requires : goal.put_header-requires
put_header-requires g c =
    rw c.SIZE.ensures (room_here _ (field_parts _ _ (length_mapped g.T.Number.SIZE g.T.Number.whole c.args.ns.now) c.requires.0))

pub put_each-requires : goal.put_each-requires
put_each-requires g c =
    room_then c.put_header.ensures (rw c.SIZE.ensures (field_parts _ _ (length_mapped g.T.Number.SIZE g.T.Number.whole c.args.ns.now) c.requires.0))

pub returns : goal.returns
returns g c =
    let n = g.T.Number in
    let ns = c.args.ns.now in
    let e : length (numbers n.SIZE (map n.whole ns)) ≡ c.SIZE.result * length ns = rw c.SIZE.ensures (length_mapped n.SIZE n.whole ns) in
    field_put _ _ e c.put_header.ensures c.put_each.ensures
