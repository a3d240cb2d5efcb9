-- The measure is the subset's number.
use Rattle.search.proofs.kept.+joins.Given as goal

abbrev pub decreases-joins : goal.decreases-joins
decreases-joins l = l.s
