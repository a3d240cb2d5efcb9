use mathlib.Core.Path.{◌≡◌}
use Rattle.fields.specs.Form.{past}
use Rattle.fields.proofs.field.past_fields.Given as goal

abbrev pub invariant-loop : goal.invariant-loop
invariant-loop l = l.at ≡ past l.file l.counter
