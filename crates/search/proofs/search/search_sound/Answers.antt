use Prim.Native.Nat.{◌*◌, ◌-◌}
use lib.ListN.{length, take}
use Rattle.orders.proofs.Bounded.{sound}
use Rattle.search.proofs.Finding.{found_ordered, found_part, found_is}
use Rattle.search.proofs.search.search_sound.Goals as goal

pub embed_sound-total-requires : goal.embed_sound-total-requires
embed_sound-total-requires c =
    let p = c.requires.prepared in
    let e = (let p = c.requires.prepared in
    found_part c.args.sinks.now.xs.now c.args.sinks.now.ys.now c.args.sinks.now.delays.now c.args.budget p.ranged p.some p.few c.args.js.now c.search_joins-steps.new.js c.search_joins-steps.ensures.writes_js) in
    record {
      sound = rw e (sound p.ranged (found_ordered c.args.sinks.now.xs.now c.args.sinks.now.ys.now c.args.sinks.now.delays.now c.args.budget p.ranged p.some p.few));
      room_u = c.requires.room_u;
      room_v = c.requires.room_v;
      room_w = c.requires.room_w;
    }

pub returns-clause-finds : goal.returns-clause-finds
returns-clause-finds c =
    let j = c.search_joins-steps in
    let e = (let p = c.requires.prepared in
    found_part c.args.sinks.now.xs.now c.args.sinks.now.ys.now c.args.sinks.now.delays.now c.args.budget p.ranged p.some p.few c.args.js.now c.search_joins-steps.new.js c.search_joins-steps.ensures.writes_js) in
    let w = c.embed_sound-total in
    record {
      finds = found_is c.args.sinks.now.xs.now c.args.sinks.now.ys.now c.args.sinks.now.delays.now c.args.budget (take (2 * (length c.args.sinks.now.xs.now - 1)) j.new.js) w.result j.result c.all_steps.result e w.ensures.embeds.sums j.ensures.counts c.all_steps.ensures;
      writes_table = j.ensures.writes_table;
      writes_js = j.ensures.writes_js;
      writes_u = rw e at w.ensures.embeds.writes_u;
      writes_v = rw e at w.ensures.embeds.writes_v;
      writes_w = rw e at w.ensures.embeds.writes_w;
    }
