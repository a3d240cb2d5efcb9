use mathlib.Core.Path.{refl}
use borrow.Author.Tests.{lt-ltb, le-ltb}
use Rattle.std.proofs.Common.{rules}
use Rattle.partners.specs.Rows.{row_at}
use Rattle.partners.proofs.Rowing.{chosen_held}
use Rattle.partners.proofs.rows.Rows.hold_row.Goals.{then-nearer, else-nearer, then-nearer-2, else-nearer-2}
use Rattle.partners.proofs.rows.Rows.hold_row.Goals as goal

pub returns : goal.returns
returns c =
    let s = c.args in
    chosen_held s.b s.m c.if-nearer.self c.if-nearer-2.self (row_at s.self.now s.t) refl c.span-e.ensures
    (elim c.if-nearer.branch [ then-nearer w ↦ rw (lt-ltb _ _ w.if-nearer.true) w.self-is | else-nearer w ↦ rw (le-ltb _ _ w.if-nearer.false) w.self-is ])
    (elim c.if-nearer-2.branch [ then-nearer-2 w ↦ rw (lt-ltb _ _ w.if-nearer-2.true) w.self-is | else-nearer-2 w ↦ rw (le-ltb _ _ w.if-nearer-2.false) w.self-is ])
    (search rules)
