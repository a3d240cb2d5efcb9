use Rattle.partners.specs.Rows.{RowsUp}
use Rattle.partners.proofs.rows.Rows.take.Given as goal

abbrev pub invariant-loop-t : goal.invariant-loop-t
invariant-loop-t g l = RowsUp g.row.D l.initial.t l.t l.b l.m l.initial.self l.self
