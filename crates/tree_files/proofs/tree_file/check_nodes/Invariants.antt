use lib.ListN.{length}
use Rattle.lists.proofs.First.{Seek}
use Rattle.fields.specs.Fields.{firsts, seconds, numbers_in}
use Rattle.tree_files.specs.Trees.{unlike}
use Rattle.tree_files.proofs.tree_file.check_nodes.Given as goal

abbrev pub invariant-loop-k : goal.invariant-loop-k
invariant-loop-k l = Seek (unlike l.nodes.us.now l.nodes.vs.now l.nodes.ws.now (firsts l.v4) (seconds l.v4) (numbers_in 4 l.v5)) (length l.nodes.us.now) l.k
