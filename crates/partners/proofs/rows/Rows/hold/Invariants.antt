use Rattle.partners.specs.Rows.{Holds}
use Rattle.partners.proofs.rows.Rows.hold.Given as goal

abbrev pub invariant-loop-t : goal.invariant-loop-t
invariant-loop-t l = Holds l.t l.b l.m l.initial.self l.self
