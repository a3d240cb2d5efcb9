use native.Mathlib.Omega.{arith}
use Rattle.std.proofs.lemmas.List.{map-id}
use Rattle.text.proofs.Written.{room_here, room_then, then}
use Rattle.house.proofs.Lengths.{joined_is}
use Rattle.house.proofs.joined_file.put_joined.Goals as goal

pub put_sinks-requires : goal.put_sinks-requires
put_sinks-requires c =
    let s = c.requires.0 in
    (room_here _ (rw joined_is at c.requires.1), s.sinks.alike, s.joins.few)

pub put_numbers-requires : goal.put_numbers-requires
put_numbers-requires c =
    let p = c.requires.0.joins in
    (rw map-id (room_then c.put_sinks.ensures (rw joined_is at c.requires.1)), omega (arith, p.few, p.valid.count))

pub returns : goal.returns
returns c = rw joined_is (then c.put_sinks.ensures (rw map-id at c.put_numbers.ensures))
