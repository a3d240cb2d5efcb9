-- Below n a node is a sink, written as its number. Else it is a join: a bracket, its first child, a blank, its second child, a bracket.
use native.Mathlib.Omega.{arith}
use Rattle.lines.proofs.Children.{sink_text, join_text, join_room, left_low, right_low}
use Rattle.text.proofs.Written.{room_here, room_then, then}
use Rattle.lines.proofs.brackets.+subtree.Goals as goal

pub number-requires : goal.number-requires
number-requires t c = rw (sink_text c.requires.ordered c.if-k-n.true) at c.requires.room

pub returns-then-k-n : goal.returns-then-k-n
returns-then-k-n t c = rw (sink_text c.requires.ordered c.if-k-n.true) c.number.ensures

pub byte-requires : goal.byte-requires
byte-requires t c =
    let z = c.requires in
    room_here _ (join_room z.ordered c.if-k-n.false z.node c.from-a.ensures c.from-b.ensures z.room)

pub subtree-requires : goal.subtree-requires
subtree-requires t c =
    let z = c.requires in
    let r = join_room z.ordered c.if-k-n.false z.node c.from-a.ensures c.from-b.ensures z.room in
    let l = left_low z.ordered c.if-k-n.false z.node c.from-a.ensures c.from-b.ensures in
    (omega (arith, c.decreases, l), (z.ordered, (omega (arith, z.node, l), room_here _ (room_then c.byte.ensures r))))

pub byte-requires-2 : goal.byte-requires-2
byte-requires-2 t c =
    let z = c.requires in
    let r = join_room z.ordered c.if-k-n.false z.node c.from-a.ensures c.from-b.ensures z.room in
    room_here _ (room_then c.subtree.ensures (room_then c.byte.ensures r))

pub subtree-requires-2 : goal.subtree-requires-2
subtree-requires-2 t c =
    let z = c.requires in
    let r = join_room z.ordered c.if-k-n.false z.node c.from-a.ensures c.from-b.ensures z.room in
    let l = right_low z.ordered c.if-k-n.false z.node c.from-a.ensures c.from-b.ensures in
    (omega (arith, c.decreases, l), (z.ordered, (omega (arith, z.node, l), room_here _ (room_then c.byte-2.ensures (room_then c.subtree.ensures (room_then c.byte.ensures r))))))

pub byte-requires-3 : goal.byte-requires-3
byte-requires-3 t c =
    let z = c.requires in
    let r = join_room z.ordered c.if-k-n.false z.node c.from-a.ensures c.from-b.ensures z.room in
    room_then c.subtree-2.ensures (room_then c.byte-2.ensures (room_then c.subtree.ensures (room_then c.byte.ensures r)))

pub returns : goal.returns
returns t c =
    let z = c.requires in
    rw (join_text z.ordered c.if-k-n.false z.node c.from-a.ensures c.from-b.ensures)
    (then c.byte.ensures (then c.subtree.ensures (then c.byte-2.ensures (then c.subtree-2.ensures c.byte-3.ensures))))
