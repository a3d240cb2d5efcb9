use mathlib.Core.Path.{◌∙◌}
use Rattle.fields.proofs.BigEndian.{be_number4}
use Rattle.fields.proofs.number.U32Number.read.Goals as goal

pub returns : goal.returns
returns c = c.from_be_bytes.ensures ∙ be_number4 c.args.s.now c.args.at
