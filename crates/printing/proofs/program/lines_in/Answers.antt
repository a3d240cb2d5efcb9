use native.Mathlib.Omega.{arith}
use Rattle.orders.proofs.Bounded.{sound}
use Rattle.printing.specs.Program.{lines_of, joins_of}
use Rattle.plane.specs.Sinks.{sinks_at}
use Rattle.printing.proofs.Fronts.{tall_u, tall_v, tall_w, embedded_text}
use Rattle.printing.proofs.Searched.{joins_ordered, joins_taken}
use Rattle.printing.proofs.program.lines_in.Goals as goal

pub embed_into-total-requires : goal.embed_into-total-requires
embed_into-total-requires g c =
    let a = c.args in
    let p = c.requires.sinks in
    record {
      sound = rw (joins_taken a.sinks.now.xs.now a.sinks.now.ys.now a.sinks.now.delays.now p _ c.write_joins.new.js c.write_joins.ensures) (sound p.ranged (joins_ordered a.sinks.now.xs.now a.sinks.now.ys.now a.sinks.now.delays.now p));
      room_u = omega arith;
      room_v = omega arith;
      room_w = omega arith;
    }

pub tree_text-requires-clause-tree : goal.tree_text-requires-clause-tree
tree_text-requires-clause-tree g c =
    let a = c.args in
    let p = c.requires.sinks in
    let j = joins_taken a.sinks.now.xs.now a.sinks.now.ys.now a.sinks.now.delays.now p _ c.write_joins.new.js c.write_joins.ensures in
    let e = rw j at c.embed_into-total.ensures in
    record {
      ordered = rw j (joins_ordered a.sinks.now.xs.now a.sinks.now.ys.now a.sinks.now.delays.now p);
      tall_u = tall_u a.sinks.now.xs.now a.sinks.now.ys.now a.sinks.now.delays.now _ e;
      tall_v = tall_v a.sinks.now.xs.now a.sinks.now.ys.now a.sinks.now.delays.now _ e;
      tall_w = tall_w a.sinks.now.xs.now a.sinks.now.ys.now a.sinks.now.delays.now _ e;
    }

pub returns-clause-writes : goal.returns-clause-writes
unfolding lines_of
returns-clause-writes g c =
    let a = c.args in
    let p = c.requires.sinks in
    let j = joins_taken a.sinks.now.xs.now a.sinks.now.ys.now a.sinks.now.delays.now p _ c.write_joins.new.js c.write_joins.ensures in
    let e = rw j at c.embed_into-total.ensures in
    rw (j, embedded_text a.sinks.now.xs.now a.sinks.now.ys.now a.sinks.now.delays.now (joins_of (sinks_at a.sinks.now.xs.now a.sinks.now.ys.now a.sinks.now.delays.now)) e) at c.tree_text.ensures.writes
