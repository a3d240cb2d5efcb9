use Rattle.text.specs.Written.{Writes}
use Rattle.fields.specs.Fields.{place, records}
use Rattle.fields.proofs.record.put_each_place.Given as goal

-- the first i places stand on the page
abbrev pub invariant-loop-i : goal.invariant-loop-i
invariant-loop-i l = Writes (records (place l.xs l.ys) l.i) l.initial.page l.page
