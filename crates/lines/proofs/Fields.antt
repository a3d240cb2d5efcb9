-- The last field of a node's line, and the lines of the first nodes.
use mathlib.Core.Path.{◌≡◌, refl}
use mathlib.Core.List.{List, [], ◌∷◌, ◌++◌}
use Prim.Native.Nat.{ℕ, ◌+◌, ◌-◌, ◌*◌}
use native.Mathlib.Numerals.{add-one}
use borrow.Author.Tests.{eq-eqb, ne_eqb}
use lib.ListN.{get_or}
use Rattle.text.specs.Decimal.{blank, decimal, minus}
use Rattle.lines.specs.Lines.{line, refused, place_field, refusal_line, parent_field, node_line, node_lines}
use Rattle.lines.specs.Parts.{place_end}
use Rattle.lines.specs.declared.embedded.Embedded.{Embedded}
use Rattle.plane.specs.Refusals.{number, place}
use Rattle.plane.specs.declared.refusal.Refusal.{Refusal}
use Rattle.std.specs.Prelude.{Option, Some, None}
use Rattle.text.specs.Written.{Writes}
use Rattle.text.specs.declared.page.Page.{Page}
use Rattle.text.proofs.Written.{then}

pub field-root : (n : ℕ) (ps : List ℕ) (k : ℕ) → k ≡ 2 * n - 2 → parent_field n ps k ≡ minus ∷ []
unfolding parent_field
field-root n ps k e = rw (eq-eqb k (2 * n - 2) e)

pub field_other : (n : ℕ) (ps : List ℕ) (k : ℕ) → (k ≡ 2 * n - 2 → ⊥) → parent_field n ps k ≡ decimal (get_or ps k 0)
unfolding parent_field
field_other n ps k e = rw (ne_eqb k (2 * n - 2) e)

-- a refusal by its parts
place_parts : (f : List ℕ) (p : Option ℕ) → line (refused ∷ f ∷ place_field p) ≡ (refused ++ (blank ∷ [])) ++ (f ++ place_end p)
place_parts f None = refl
place_parts f (Some i) = refl

pub refusal_parts : (r : Refusal) → refusal_line r ≡ (refused ++ (blank ∷ [])) ++ (decimal (number r) ++ place_end (place r))
unfolding refusal_line
refusal_parts r = place_parts (decimal (number r)) (place r)

-- ---- the lines of the nodes, one after the other
pub line_next : {old mid new : Page} (t : Embedded) (ps : List ℕ) (k : ℕ)
    → Writes (node_lines t.n ps t.us.now t.vs.now t.ws.now k) old mid → Writes (node_line t.n ps t.us.now t.vs.now t.ws.now k) mid new
    → Writes (node_lines t.n ps t.us.now t.vs.now t.ws.now (k + 1)) old new
unfolding node_lines
line_next t ps k w x = rw add-one (then w x)
