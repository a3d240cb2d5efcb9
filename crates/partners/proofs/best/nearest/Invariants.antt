use Prim.Native.Nat.{ℕ, ◌-◌}
use lib.ListN.{length}
use Rattle.partners.specs.Live.{Below}
use Rattle.partners.specs.Rows.{row_at, Right}
use Rattle.partners.proofs.Ending.{gone}
use Rattle.partners.proofs.best.nearest.Given as goal

abbrev pub invariant-rows : goal.invariant-rows
invariant-rows l = (m : ℕ) → Below m l.live → Right l.bs l.live m (row_at l.initial.rows) → Right l.bs l.live m (row_at l.rows)

abbrev pub decreases-rows : goal.decreases-rows
decreases-rows l = gone l.live l.rows (length l.live - 1)
