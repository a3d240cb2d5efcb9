use Rattle.lines.specs.Lines.{first_line}
use Rattle.text.proofs.Written.{then}
use Rattle.lines.proofs.line.first_line.Goals as goal

pub returns : goal.returns
unfolding first_line
returns c =
    then c.word.ensures (then c.number.ensures (then c.word-2.ensures (then c.number-2.ensures (rw c.last_field.ensures at c.word-3.ensures))))
