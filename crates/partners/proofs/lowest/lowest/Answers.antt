use native.Mathlib.Omega.{arith}
use Rattle.partners.proofs.Leasts.{lowest_of}
use Rattle.partners.proofs.lowest.lowest.Goals as goal

pub returns : goal.returns
returns c = lowest_of c.args.rows.now c.args.k c.first_least.result (omega arith) c.first_least.ensures
