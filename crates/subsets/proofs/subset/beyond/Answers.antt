use native.Mathlib.Omega.{arith}
use Rattle.subsets.proofs.Digits.{low_le, self_lt}
use Rattle.subsets.proofs.Lowest.{lowest_is, lowest_lt, shl_one}
use Rattle.subsets.proofs.subset.beyond.Goals as goal

pub overflow_shl-result : goal.overflow_shl-result
overflow_shl-result c = omega (arith, lowest_is c.args.s c.requires (c.ranges.s.fits), lowest_lt 32 c.args.s c.requires (c.ranges.s.fits))

pub overflow_sub-result : goal.overflow_sub-result
overflow_sub-result c = omega (arith, shl_one c.args.s c.requires (c.ranges.s.fits), low_le c.args.s c.args.s c.requires (self_lt c.args.s))

pub returns : goal.returns
returns c = omega (arith, shl_one c.args.s c.requires (c.ranges.s.fits))
