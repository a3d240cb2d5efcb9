use mathlib.Core.Path.{refl, ◌∙◌}
use native.Mathlib.Omega.{arith}
use Rattle.nearest.proofs.Going.{open_low, round_of}
use Rattle.nearest.proofs.order.round.Goals as goal

pub put_hull-requires : goal.put_hull-requires
put_hull-requires c =
    let o = c.requires in
    let (low, high) = open_low c.pair_at-p.result o (c.pair_at-p.ensures ∙ c.nearest-c.ensures.0) in
    (o.box-room, low, high)

pub write_pair-requires : goal.write_pair-requires
write_pair-requires c =
    let o = c.requires in
    let (low, high) = open_low c.pair_at-p.result o (c.pair_at-p.ensures ∙ c.nearest-c.ensures.0) in
    (o.room, omega (arith, low, o.turn, o.few), omega (arith, high, o.turn, o.few))

pub returns : goal.returns
returns c =
    let p = c.pair_at-p in
    let w = c.nearest-c in
    round_of w.result c.requires w.ensures.1 refl c.close.ensures p.result w.ensures.0 p.ensures c.close.auto.live c.put_hull.ensures c.write_pair.ensures
