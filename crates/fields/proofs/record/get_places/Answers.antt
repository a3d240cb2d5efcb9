use native.Mathlib.Nat.{add-zero}
use Rattle.fields.specs.Fields.{firsts}
use Rattle.fields.proofs.record.get_places.Goals as goal

pub returns-clause-xs_after : goal.returns-clause-xs_after
unfolding firsts
returns-clause-xs_after c = simp add-zero at c.get_each.ensures
