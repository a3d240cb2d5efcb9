use native.Mathlib.Omega.{arith}
use Rattle.partners.proofs.Entering.{entered}
use Rattle.partners.proofs.Moving.{both_left}
use Rattle.nearest.proofs.keep.close_rows.Goals as goal

pub returns : goal.returns
returns c =
    let s = c.args in
    entered (λ t h. both_left s.c.row s.c.with s.k c.requires.1 c.requires.0 c.hold.ensures.first c.hold.ensures.others c.take.ensures c.take-2.ensures t (omega (arith, h))) c.seat.ensures
