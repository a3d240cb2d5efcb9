use mathlib.Core.Path.{sym, ◌∙◌}
use mir.Facts.{to_z-of_z}
use Rattle.plane.proofs.Unlifted.{hull_accepted}
use Rattle.plane.proofs.bounds.enlarged.Goals as goal

pub returns-in-Ok : goal.returns-in-Ok
returns-in-Ok c =
    let a = c.args in
    let f = c.ranges.x in
    let g = c.ranges.y in
    rw (c.hull.ensures, simp to_z-of_z at c.sink_box.ensures) (hull_accepted a.b a.x a.y a.w (sym (simp to_z-of_z at c.verdict_on.ensures) ∙ c.in-Ok.is))
