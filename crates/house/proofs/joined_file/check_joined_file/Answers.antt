use mathlib.Core.Path.{sym, ◌∙◌}
use native.Mathlib.Omega.{arith}
use Rattle.fields.proofs.Scan.{formed_less}
use Rattle.fields.proofs.Standing.{formed}
use Rattle.house.proofs.joined_file.check_joined_file.Goals as goal

pub value-requires : goal.value-requires
value-requires c = formed_less 2 (omega arith) (formed 3 _ (sym c.check_form.ensures ∙ c.in_ok-check_form.was))
