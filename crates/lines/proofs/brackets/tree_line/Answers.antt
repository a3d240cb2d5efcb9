use Rattle.lines.specs.Lines.{second_line}
use Rattle.text.proofs.Written.{then}
use Rattle.lines.proofs.brackets.tree_line.Goals as goal

pub returns : goal.returns
unfolding second_line
returns c = then c.subtree.ensures c.byte.ensures
