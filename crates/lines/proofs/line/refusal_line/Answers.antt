use Rattle.lines.proofs.Fields.{refusal_parts}
use Rattle.text.proofs.Written.{then}
use Rattle.lines.proofs.line.refusal_line.Goals as goal

pub returns-clause-writes : goal.returns-clause-writes
returns-clause-writes c =
    rw (refusal_parts c.args.r)
    (then c.word.ensures (then (rw c.number_of.ensures at c.number.ensures) (rw c.place_of.ensures at c.place_end.ensures.writes)))
