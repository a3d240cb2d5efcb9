use Rattle.text.proofs.Written.{room_here, room_then}
use Rattle.fields.proofs.Values.{length_places}
use Rattle.fields.proofs.Stores.{field_parts, field_put}
use Rattle.fields.proofs.record.put_places.Goals as goal

pub put_header-requires : goal.put_header-requires
put_header-requires c =
    let a = c.args in
    room_here _ (field_parts _ _ (length_places a.xs.now a.ys.now) c.requires.0)

pub put_each_place-requires : goal.put_each_place-requires
put_each_place-requires c =
    let a = c.args in
    (room_then c.put_header.ensures (field_parts _ _ (length_places a.xs.now a.ys.now) c.requires.0), c.requires.1)

pub returns : goal.returns
returns c =
    let a = c.args in
    field_put _ _ (length_places a.xs.now a.ys.now) c.put_header.ensures c.put_each_place.ensures
