use borrow.Author.Rules.{rules}
use Rattle.measures.proofs.Fairness.{fair-diam}
use Rattle.measures.proofs.segment.nearest_spot.Goals as goal

pub nearest_on-requires : goal.nearest_on-requires
nearest_on-requires c = let h = fair-diam c.requires.0 in search rules

pub nearest_on-requires-2 : goal.nearest_on-requires-2
nearest_on-requires-2 c = let h = fair-diam c.requires.0 in search rules
