use Prim.Native.Nat.{◌-◌}
use lib.ListN.{take}
use Rattle.plane.specs.Sinks.{sinks_in}
use Rattle.nearest.proofs.Going.{Going}
use Rattle.nearest.proofs.order.order_sound.Given as goal

abbrev pub invariant-loop-i : goal.invariant-loop-i
invariant-loop-i l = Going (sinks_in l.sinks) l.n l.i l.bs (take (l.n - l.i) l.live) l.rows l.initial.js l.js
