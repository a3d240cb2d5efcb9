-- Document 02, Q-1: "5 is withdrawn and its number stays unused."
use mathlib.Core.Path.{◌≡◌}
use native.Mathlib.Omega.{arith}
use Rattle.plane.specs.Refusals.{number}
use Rattle.plane.specs.declared.refusal.Refusal.{Refusal}
use Rattle.plane.specs.declared.refusal.Refusal.TheVariants.{Lists, NoSink, TooMany, Outside, Joins, Room, Form, Tags, Unlike, Late}

pub never_five : (r : Refusal) → number r ≡ 5 → ⊥
never_five Lists e = omega (arith, e)
never_five NoSink e = omega (arith, e)
never_five TooMany e = omega (arith, e)
never_five (Outside i) e = omega (arith, e)
never_five (Joins i) e = omega (arith, e)
never_five Room e = omega (arith, e)
never_five (Form i) e = omega (arith, e)
never_five Tags e = omega (arith, e)
never_five (Unlike i) e = omega (arith, e)
never_five (Late i) e = omega (arith, e)
