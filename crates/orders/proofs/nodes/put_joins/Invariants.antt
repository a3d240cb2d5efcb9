use Rattle.orders.specs.Arrays.{PutsJoins}
use Rattle.orders.proofs.nodes.put_joins.Given as goal

abbrev pub invariant-loop-i : goal.invariant-loop-i
invariant-loop-i l = PutsJoins l.n l.js l.i l.initial.hulls l.sum l.hulls l.diameters l.parents
