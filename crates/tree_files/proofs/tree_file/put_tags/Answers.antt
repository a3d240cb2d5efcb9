use native.Mathlib.Omega.{arith}
use Rattle.std.proofs.Common.{rules}
use Rattle.std.proofs.lemmas.List.{map-id}
use Rattle.text.proofs.Written.{room_here, room_then, then}
use Rattle.tree_files.proofs.tree_file.put_tags.Goals as goal

pub put_places-requires : goal.put_places-requires
put_places-requires c = (room_here _ c.requires.0, search rules, c.requires.1)

pub put_numbers-requires : goal.put_numbers-requires
put_numbers-requires c =
    (rw map-id (room_then c.put_places.ensures c.requires.0), omega arith)

pub returns : goal.returns
returns c = then c.put_places.ensures (rw map-id at c.put_numbers.ensures)
