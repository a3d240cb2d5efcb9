use mathlib.Core.List.{map}
use lib.ListN.{get_or}
use Rattle.text.specs.Written.{Writes}
use Rattle.fields.specs.Bytes.{big}
use Rattle.fields.specs.Fields.{records}
use Rattle.fields.proofs.record.put_each.Given as goal

-- the first numbers stand on the page
abbrev pub invariant-loop-n : goal.invariant-loop-n
invariant-loop-n g l = Writes (records (λ j. big g.T.Number.SIZE (get_or (map g.T.Number.whole l.ns) j 0)) l.n-index) l.initial.page l.page
