use mathlib.Core.Path.{sym, ◌∙◌}
use native.Mathlib.Omega.{arith}
use Rattle.plane.proofs.Checks.{both_pass}
use Rattle.fields.specs.Form.{form}
use Rattle.fields.proofs.Scan.{formed_less}
use Rattle.fields.proofs.Standing.{formed}
use Rattle.tree_files.specs.Trees.{check_tree_file}
use Rattle.tree_files.proofs.tree_file.read_tree.Goals as goal

pub take_joins-requires : goal.take_joins-requires
unfolding check_tree_file
take_joins-requires c =
    let f = c.args.file.now in
    formed_less 3 (omega arith) (formed 5 f (both_pass (form 5 f) _ (sym c.check_tree_file.ensures ∙ c.in_ok-check_tree_file.was)).0)
