use Rattle.nearest.proofs.Treed.{order_held, order_sounds}
use Rattle.nearest.proofs.tree.tree_sound.Goals as goal

pub embed_into-requires : goal.embed_into-requires
embed_into-requires c =
    let o = order_held c.args.sinks.now.xs.now c.args.sinks.now.ys.now c.args.sinks.now.delays.now c.args.js.now c.order_sound.new.js c.order_sound.ensures in
    rw o (record { sound = order_sounds c.requires.ready; room_u = c.requires.room_u; room_v = c.requires.room_v; room_w = c.requires.room_w })

pub returns-clause-builds : goal.returns-clause-builds
returns-clause-builds c =
    let o = order_held c.args.sinks.now.xs.now c.args.sinks.now.ys.now c.args.sinks.now.delays.now c.args.js.now c.order_sound.new.js c.order_sound.ensures in
    let e = rw o at c.embed_into.ensures in
    record { sums = e.sums; writes_j = c.order_sound.ensures; writes_u = e.writes_u; writes_v = e.writes_v; writes_w = e.writes_w }
