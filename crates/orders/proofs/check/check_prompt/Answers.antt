use mathlib.Core.Path.{sym, ◌∙◌}
use Rattle.plane.proofs.Checks.{accepted, check_prompt}
use Rattle.orders.proofs.check.check_prompt.Goals as goal

pub check_joins-requires : goal.check_joins-requires
check_joins-requires c = let m = accepted 512 _ _ _ (check_prompt 512 c.args.xs.now c.args.ys.now ∙ sym c.check_places.ensures ∙ c.in_ok-check_places.was) in (m.some, m.few)
