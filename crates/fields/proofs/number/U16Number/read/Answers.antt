use mathlib.Core.Path.{◌∙◌}
use Rattle.fields.proofs.BigEndian.{be_number2}
use Rattle.fields.proofs.number.U16Number.read.Goals as goal

pub returns : goal.returns
returns c = c.from_be_bytes.ensures ∙ be_number2 c.args.s.now c.args.at
