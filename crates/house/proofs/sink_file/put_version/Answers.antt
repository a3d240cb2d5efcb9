use Rattle.fields.specs.Fields.{field}
use Rattle.text.proofs.Written.{room_here, room_then, then}
use Rattle.house.proofs.sink_file.put_version.Goals as goal

pub put_header-requires : goal.put_header-requires
unfolding field
put_header-requires c = room_here _ c.requires

pub byte-requires : goal.byte-requires
unfolding field
byte-requires c = room_then c.put_header.ensures c.requires

pub returns : goal.returns
unfolding field
returns c = then c.put_header.ensures c.byte.ensures
