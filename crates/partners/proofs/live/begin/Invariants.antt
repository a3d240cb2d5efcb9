use lib.ListN.{length}
use Rattle.lists.proofs.Grow.{Filled}
use Rattle.partners.proofs.live.begin.Given as goal

abbrev pub invariant-loop-t : goal.invariant-loop-t
invariant-loop-t z = Filled (λ l. length l) z.t z.initial.live z.live
