use mir.Facts.{to_z-of_z}
use Rattle.text.proofs.Decimal.{signed_low, signed_high}
use Rattle.text.proofs.Written.{room_here, room_then, then}
use Rattle.text.proofs.figures.I32Figures.print.Goals.{then-self-lt0, else-self-lt0}
use Rattle.text.proofs.figures.I32Figures.print.Goals as goal

pub byte-requires : goal.byte-requires
byte-requires c =
    let h = simp (to_z-of_z c.ranges.self) at c.if-self-lt0.true in
    room_here _ (rw (signed_low c.args.self h) at c.requires)

pub digits-requires : goal.digits-requires
digits-requires c =
    let f = c.ranges.self in
    let v = simp (to_z-of_z f) at c.unsigned_abs.ensures.value in
    elim c.if-self-lt0.branch [
      | then-self-lt0 w ↦
          let h = simp (to_z-of_z f) at w.if-self-lt0.true in
          rw (v, w.page-is) (room_then w.byte.ensures (rw (signed_low c.args.self h) at c.requires))
      | else-self-lt0 w ↦
          let h = simp (to_z-of_z f) at w.if-self-lt0.false in
          rw (v, w.page-is) (rw (signed_high c.args.self h) at c.requires)
    ]

pub returns : goal.returns
returns c =
    let f = c.ranges.self in
    let v = simp (to_z-of_z f) at c.unsigned_abs.ensures.value in
    elim c.if-self-lt0.branch [
      | then-self-lt0 w ↦
          let h = simp (to_z-of_z f) at w.if-self-lt0.true in
          rw (signed_low c.args.self h) (then w.byte.ensures (rw (v, w.page-is) at c.digits.ensures))
      | else-self-lt0 w ↦
          let h = simp (to_z-of_z f) at w.if-self-lt0.false in
          rw (signed_high c.args.self h) (rw (v, w.page-is) at c.digits.ensures)
    ]
