use Prim.Native.Nat.{◌-◌, ◌*◌}
use lib.IntN.{pos}
use lib.ListN.{length, replicate}
use Rattle.plane.specs.Sinks.{sinks_at, prompt}
use Rattle.orders.specs.Nodes.{places_u, places_v, wires}
use Rattle.tree_files.specs.Trees.{check_tags}
use Rattle.lists.proofs.Front.{front_part}
use Rattle.tree_files.proofs.TreeAnswers.{length_u, length_v, length_wires}
use Rattle.tree_files.proofs.tree_file.check_tags.Goals as goal

pub returns : goal.returns
unfolding check_tags
returns c =
    let a = c.args in
    let s = sinks_at a.xs.now a.ys.now (prompt a.xs.now) in
    let js = a.js.now in
    let m = 2 * length a.xs.now - 1 in
    let e = c.embed_prompt.ensures in
    rw (
      front_part (places_u s js) (replicate 1023 (pos 0)) m e.writes_u (length_u a.xs.now a.ys.now js),
      front_part (places_v s js) (replicate 1023 (pos 0)) m e.writes_v (length_v a.xs.now a.ys.now js),
      front_part (wires s js) (replicate 1023 0) m e.writes_w (length_wires a.xs.now a.ys.now js),
    ) at c.check_nodes.ensures
