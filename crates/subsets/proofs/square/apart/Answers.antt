use native.Mathlib.Omega.{arith}
use Rattle.plane.proofs.Checks.{placed}
use Rattle.subsets.proofs.square.apart.Goals as goal

pub distance-requires : goal.distance-requires
distance-requires c = (placed c.requires.0 c.args.i c.requires.1, placed c.requires.0 c.args.j c.requires.2)

pub bounds-sinks-i : goal.bounds-sinks-i
bounds-sinks-i c = omega (arith, c.requires.1, c.requires.0.delayed)

pub bounds-sinks-j : goal.bounds-sinks-j
bounds-sinks-j c = omega (arith, c.requires.2, c.requires.0.delayed)

pub overflow_add-result : goal.overflow_add-result
overflow_add-result c = omega (arith, c.requires.0.brief c.args.i, c.requires.0.brief c.args.j)

pub overflow_add-result-2 : goal.overflow_add-result-2
overflow_add-result-2 c = omega (arith, c.distance.ensures, c.requires.0.brief c.args.i, c.requires.0.brief c.args.j)

pub returns : goal.returns
returns c = omega (arith, c.distance.ensures.0)
