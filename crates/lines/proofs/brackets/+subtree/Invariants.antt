-- The measure is the node's number, since children have smaller numbers.
use Rattle.lines.proofs.brackets.+subtree.Given as goal

abbrev pub decreases-subtree : goal.decreases-subtree
decreases-subtree l = l.k
