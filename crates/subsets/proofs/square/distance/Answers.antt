use mathlib.Core.Path.{ap, ◌∙◌}
use Rattle.measures.specs.Boxes.{diam_of}
use Rattle.subsets.proofs.Rows.{pair-box}
use Rattle.subsets.proofs.square.distance.Goals as goal

pub returns : goal.returns
returns c =
    let e = c.diameter.ensures ∙ ap diam_of c.hull.ensures in
    let p = pair-box c.requires.0 c.requires.1 c.place_at.ensures c.place_at-2.ensures in
    (e ∙ p.0, rw e p.1)
