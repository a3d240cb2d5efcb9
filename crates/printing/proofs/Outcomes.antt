-- Two permitted outcomes of a call that prints coincide.
use mathlib.Core.Path.{◌≡◌, sym, ◌∙◌}
use mathlib.Core.List.{List}
use Prim.Native.Nat.{ℕ}
use Rattle.lines.specs.Printed.{Printed}
use Rattle.printing.specs.Program.{text_of}

pub only_tree_lines : (input out : List ℕ) {r r' : ℕ} {new new' : List ℕ} → Printed (text_of input) out r new → Printed (text_of input) out r' new' → (r ≡ r') × (new ≡ new')
only_tree_lines input out p q = (p.answers ∙ sym q.answers, p.writes ∙ sym q.writes)
