use native.Mathlib.Omega.{arith}
use Prim.Native.Nat.{◌-◌, ◌*◌}
use lib.IntN.{pos}
use lib.ListN.{length, replicate}
use Rattle.plane.specs.Sinks.{sinks_at, prompt}
use Rattle.orders.specs.Nodes.{places_u, places_v, wires}
use Rattle.lists.proofs.Front.{front_part}
use Rattle.tree_files.proofs.TreeAnswers.{length_u, length_v, length_wires}
use Rattle.tree_files.proofs.TreeLengths.{tree_is}
use Rattle.text.proofs.Written.{room_here, room_then, then}
use Rattle.tree_files.proofs.tree_file.put_tree.Goals as goal

pub put_joined-requires : goal.put_joined-requires
put_joined-requires c = (c.requires.0, room_here _ (rw tree_is at c.requires.1))

pub put_tags-requires : goal.put_tags-requires
put_tags-requires c =
    let a = c.args in
    let xs = a.xs.now in
    let ys = a.ys.now in
    let js = a.js.now in
    let s = sinks_at xs ys (prompt xs) in
    let m = 2 * length xs - 1 in
    let e = c.embed_prompt.ensures in
    let p = front_part (places_u s js) (replicate 1023 (pos 0)) m e.writes_u (length_u xs ys js) in
    let q = front_part (places_v s js) (replicate 1023 (pos 0)) m e.writes_v (length_v xs ys js) in
    let r = front_part (wires s js) (replicate 1023 0) m e.writes_w (length_wires xs ys js) in
    rw (p, q, r) (room_then c.put_joined.ensures (rw tree_is at c.requires.1), omega (arith, length_u xs ys js, c.requires.0.joins.few))

pub returns : goal.returns
returns c =
    let a = c.args in
    let xs = a.xs.now in
    let ys = a.ys.now in
    let js = a.js.now in
    let s = sinks_at xs ys (prompt xs) in
    let m = 2 * length xs - 1 in
    let e = c.embed_prompt.ensures in
    let p = front_part (places_u s js) (replicate 1023 (pos 0)) m e.writes_u (length_u xs ys js) in
    let q = front_part (places_v s js) (replicate 1023 (pos 0)) m e.writes_v (length_v xs ys js) in
    let r = front_part (wires s js) (replicate 1023 0) m e.writes_w (length_wires xs ys js) in
    rw (tree_is xs ys js) (then c.put_joined.ensures (rw (p, q, r) at c.put_tags.ensures))
