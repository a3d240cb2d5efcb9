use Rattle.subsets.proofs.Lowest.{lowest_is}
use Rattle.subsets.proofs.subset.first.Goals as goal

pub returns : goal.returns
returns c = lowest_is c.args.s c.requires c.ranges.s.fits
