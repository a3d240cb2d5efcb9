use Rattle.lines.proofs.Fields.{field-root, field_other}
use Rattle.text.proofs.Written.{then}
use Rattle.lines.proofs.line.parent_field.Goals as goal

pub returns-then-k-n-clause-writes : goal.returns-then-k-n-clause-writes
returns-then-k-n-clause-writes c = rw (field-root c.args.n c.args.ps.now c.args.k c.if-k-n.true) c.word.ensures

pub returns-clause-writes : goal.returns-clause-writes
returns-clause-writes c =
    rw (field_other c.args.n c.args.ps.now c.args.k c.if-k-n.false) (then c.next.ensures c.byte.ensures)
