use native.Mathlib.Nat.{add-zero}
use Rattle.fields.specs.Fields.{numbers_in}
use Rattle.fields.proofs.record.get_nodes.Goals as goal

pub returns : goal.returns
unfolding numbers_in
returns c = simp add-zero at c.get_each.ensures
