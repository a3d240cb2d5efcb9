use Rattle.text.proofs.Written.{then}
use Rattle.lines.proofs.line.place_end.Goals as goal

pub returns-clause-writes : goal.returns-clause-writes
returns-clause-writes c = rw c.in-Some.is (then c.next.ensures c.byte-2.ensures)
