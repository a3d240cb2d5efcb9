use borrow.Author.Rules.{rules}
use lib.IntN.{pos}
use lib.ListN.{get_or}
use mir.Facts.{to_z-of_z}
use mir.Syntax.{w32}
use mir.Val.{SFits}
use Rattle.lines.specs.Lines.{node_line}
use Rattle.text.proofs.Written.{then}
use Rattle.lines.proofs.line.node_line.Goals as goal

pub returns-clause-writes : goal.returns-clause-writes
unfolding node_line
returns-clause-writes c =
    let t = c.args.t.now in
    let f : SFits w32 (get_or t.us.now c.args.k (pos 0)) = search rules in
    let g : SFits w32 (get_or t.vs.now c.args.k (pos 0)) = search rules in
    then c.number.ensures (then (rw (to_z-of_z f) at c.next.ensures) (then (rw (to_z-of_z g) at c.next-2.ensures) (then c.next-3.ensures c.parent_field.ensures.writes)))
