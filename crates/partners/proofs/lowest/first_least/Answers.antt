use mathlib.Core.Path.{sym, ◌∙◌}
use Rattle.partners.proofs.Leasts.{first_found, some_found}
use Rattle.partners.proofs.lowest.first_least.Goals as goal

pub unwrap-requires : goal.unwrap-requires
unwrap-requires c = rw c.first_at.ensures (some_found c.least.ensures)

pub returns : goal.returns
returns c = first_found c.least.ensures (sym c.first_at.ensures ∙ c.unwrap.ensures)
