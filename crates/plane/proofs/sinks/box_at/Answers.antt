use borrow.Author.Rules.{sfits_of}
use lib.IntN.{pos}
use lib.ListN.{get_or}
use mir.Facts.{to_z-of_z}
use mir.Syntax.{w32}
use mir.Val.{SFits}
use Rattle.plane.proofs.Covering.{covers_sink}
use Rattle.plane.proofs.sinks.box_at.Goals as goal

pub returns : goal.returns
returns c =
    let a = c.args in
    let p = c.requires in
    let f : SFits w32 (get_or a.sinks.now.xs.now a.i (pos 0)) = sfits_of c.sink_box-arg-1.given in
    let g : SFits w32 (get_or a.sinks.now.ys.now a.i (pos 0)) = sfits_of c.sink_box-arg-2-1.given in
    rw (simp to_z-of_z at c.sink_box.ensures) (covers_sink a.sinks.now.xs.now a.sinks.now.ys.now a.sinks.now.delays.now a.i (p.0.near_x a.i p.1) (p.0.near_y a.i p.1) (p.0.brief a.i))
