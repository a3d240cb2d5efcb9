use mathlib.Core.Path.{sym, ◌∙◌}
use native.Mathlib.Omega.{arith}
use Rattle.orders.proofs.Bounded.{order-sound}
use Rattle.fields.proofs.Scan.{formed_less}
use Rattle.fields.proofs.Standing.{formed}
use Rattle.tree_files.proofs.tree_file.check_tree_file.Goals as goal

pub value-v2-requires : goal.value-v2-requires
value-v2-requires c = formed_less 2 (omega arith) (formed 5 _ (sym c.check_form.ensures ∙ c.in_ok-check_form.was))

pub value-v3-requires : goal.value-v3-requires
value-v3-requires c = formed_less 3 (omega arith) (formed 5 _ (sym c.check_form.ensures ∙ c.in_ok-check_form.was))

pub value-requires : goal.value-requires
value-requires c = formed_less 4 (omega arith) (formed 5 _ (sym c.check_form.ensures ∙ c.in_ok-check_form.was))

pub value-requires-2 : goal.value-requires-2
value-requires-2 c = formed 5 _ (sym c.check_form.ensures ∙ c.in_ok-check_form.was)

pub check_tag_values-requires : goal.check_tag_values-requires
check_tag_values-requires c =
    order-sound _ _ _ _ (sym c.check_values.ensures ∙ c.in_ok-check_values.was)
