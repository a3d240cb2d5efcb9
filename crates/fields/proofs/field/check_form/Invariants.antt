use Prim.Native.Nat.{◌+◌}
use Rattle.fields.specs.Tags.{tag_number}
use Rattle.fields.proofs.Scan.{Scan}
use Rattle.fields.proofs.field.check_form.Given as goal

abbrev pub invariant-loop-tag : goal.invariant-loop-tag
invariant-loop-tag l = Scan l.file (tag_number l.fn.last) l.at (l.tag-index + 1)
