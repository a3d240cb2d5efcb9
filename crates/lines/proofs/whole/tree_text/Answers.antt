use Rattle.lines.specs.Lines.{tree_text}
use Rattle.lines.proofs.Same.{lines_with}
use Rattle.text.proofs.Written.{then}
use Rattle.lines.proofs.whole.tree_text.Goals as goal

pub returns-clause-writes : goal.returns-clause-writes
unfolding tree_text
returns-clause-writes c =
    let t = c.args.t.now in
    rw (lines_with t.n t.js.now c.parents-ps.result t.us.now t.vs.now t.ws.now c.parents-ps.ensures)
    (then c.first_line.ensures (then c.tree_line.ensures c.node_lines.ensures.writes))
