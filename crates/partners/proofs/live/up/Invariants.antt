use Rattle.partners.specs.Rows.{NodesUp}
use Rattle.partners.proofs.live.up.Given as goal

abbrev pub invariant-loop-t : goal.invariant-loop-t
invariant-loop-t g l = NodesUp g.row.D l.initial.t l.t l.initial.live l.live
