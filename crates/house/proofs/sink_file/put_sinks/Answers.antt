use mathlib.Core.List.{append-nil}
use native.Mathlib.Omega.{arith}
use Rattle.house.specs.Files.{sink_file}
use Rattle.text.proofs.Written.{room_here, room_then, then}
use Rattle.house.proofs.sink_file.put_sinks.Goals as goal

pub put_version-requires : goal.put_version-requires
unfolding sink_file
put_version-requires c = room_here _ c.requires.0

pub put_places-requires : goal.put_places-requires
unfolding sink_file
put_places-requires c = (room_then c.put_version.ensures (rw append-nil at c.requires.0), c.requires.1, omega arith)

pub returns : goal.returns
unfolding sink_file
returns c = rw append-nil (then c.put_version.ensures c.put_places.ensures)
