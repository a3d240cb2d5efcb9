-- Document 02, Q-1: "5 is withdrawn and its number stays unused": the program prints "refused 5" for no input.
use mathlib.Core.Path.{◌≡◌, ap}
use mathlib.Core.List.{List, [], ◌∷◌, ◌++◌}
use Prim.Native.Nat.{ℕ}
use native.Mathlib.Omega.{arith}
use lib.Dec.{ltb}
use lib.ListN.{length, get_or, take}
use Rattle.lists.proofs.Tests.{choice}
use Rattle.zero_skew.specs.Plane.{Sinks}
use Rattle.plane.specs.Sinks.{sinks_at, prompt}
use Rattle.plane.specs.declared.refusal.Refusal.{Refusal}
use Rattle.plane.specs.declared.refusal.Refusal.TheVariants.{Lists, NoSink, TooMany, Outside, Joins, Room, Form, Tags, Unlike, Late}
use Rattle.std.specs.Prelude.{Ok, Err}
use Rattle.plane.specs.Refusals.{Checked}
use Rattle.house.specs.Reading.{check_sink_file, xs_in, ys_in}
use Rattle.text.specs.Decimal.{digit, digits, decimal, blank}
use Rattle.lines.specs.Lines.{refused, first_line, tree_text, refusal_line, too_long}
use Rattle.printing.specs.Program.{lines_of, answer_text, text_of}

-- a text whose first nine bytes are "refused 5"
abbrev SaysFive : List ℕ → Type 0
SaysFive text = take 9 text ≡ refused ++ (blank ∷ digit 5 ∷ [])

-- each of its bytes is that of "refused 5"
byte : (k : ℕ) (text : List ℕ) → SaysFive text → get_or (take 9 text) k 0 ≡ get_or (refused ++ (blank ∷ digit 5 ∷ [])) k 0
byte k text e = ap (λ (l : List ℕ). get_or l k 0) e

line_never : (r : Refusal) → SaysFive (refusal_line r) → ⊥
unfolding refusal_line decimal digits
line_never Lists e = omega (arith, byte 8 (refusal_line Lists) e)
line_never NoSink e = omega (arith, byte 8 (refusal_line NoSink) e)
line_never TooMany e = omega (arith, byte 8 (refusal_line TooMany) e)
line_never (Outside i) e = omega (arith, byte 8 (refusal_line (Outside i)) e)
line_never (Joins i) e = omega (arith, byte 8 (refusal_line (Joins i)) e)
line_never Room e = omega (arith, byte 8 (refusal_line Room) e)
line_never (Form i) e = omega (arith, byte 8 (refusal_line (Form i)) e)
line_never Tags e = omega (arith, byte 8 (refusal_line Tags) e)
line_never (Unlike i) e = omega (arith, byte 8 (refusal_line (Unlike i)) e)
line_never (Late i) e = omega (arith, byte 8 (refusal_line (Late i)) e)

answer_never : (c : Checked) (s : Sinks) → SaysFive (answer_text c s) → ⊥
unfolding answer_text lines_of tree_text first_line
answer_never (Ok u) s e = omega (arith, byte 0 (lines_of s) e)
answer_never (Err r) s e = line_never r e

pub never_printed : (f : List ℕ) → SaysFive (text_of f) → ⊥
unfolding text_of too_long
never_printed f =
    choice (λ (t : List ℕ). SaysFive t → ⊥) (ltb 32768 (length f)) too_long (answer_text (check_sink_file f) (sinks_at (xs_in f) (ys_in f) (prompt (xs_in f))))
    (λ t e. omega (arith, byte 8 too_long e))
    (λ t e. answer_never (check_sink_file f) (sinks_at (xs_in f) (ys_in f) (prompt (xs_in f))) e)
