use Rattle.partners.specs.Rows.{Spans}
use Rattle.partners.proofs.rows.Rows.spans.Given as goal

abbrev pub invariant-loop-t : goal.invariant-loop-t
invariant-loop-t l = Spans l.initial.t l.t l.b l.initial.self l.self
