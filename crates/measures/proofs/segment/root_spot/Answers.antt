use borrow.Author.Rules.{rules}
use Rattle.measures.proofs.Fairness.{fair-diam}
use Rattle.measures.proofs.segment.root_spot.Goals as goal

pub low_end-requires : goal.low_end-requires
low_end-requires c = let h = fair-diam c.requires.0 in search rules

pub low_end-requires-2 : goal.low_end-requires-2
low_end-requires-2 c = let h = fair-diam c.requires.0 in search rules
