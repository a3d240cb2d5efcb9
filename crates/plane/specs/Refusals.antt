-- Document 01, "Refusal numbers": a number and a place for each refusal. Place "none" is its own case. Document 02, Q-1: "5 is withdrawn and its number stays unused." Q-7: "15 for a delay out of range, at the lowest such sink".
use Rattle.std.specs.Prelude.{Bool, cond, ℕ, eqb, Option, Some, None, Result, Ok, Err}
use Rattle.plane.specs.declared.refusal.Refusal.{Refusal}
use Rattle.plane.specs.declared.refusal.Refusal.TheVariants.{Lists, NoSink, TooMany, Outside, Joins, Room, Form, Tags, Unlike, Late}

abbrev pub number : Refusal → ℕ
number Lists = 1
number NoSink = 2
number TooMany = 3
number (Outside i) = 4
number (Joins i) = 6
number Room = 7
number (Form i) = 8
number Tags = 9
number (Unlike i) = 9
number (Late i) = 15

abbrev pub place : Refusal → Option ℕ
place Lists = None
place NoSink = None
place TooMany = None
place (Outside i) = Some i
place (Joins i) = Some i
place Room = None
place (Form i) = Some i
place Tags = None
place (Unlike i) = Some i
place (Late i) = Some i

-- the table itself, the last line being 02's: each number with its place
pub data Listed : ℕ → Option ℕ → Type 0 where
  lists : Listed 1 None
  no_sink : Listed 2 None
  too_many : Listed 3 None
  outside : (sink : ℕ) → Listed 4 (Some sink)
  joins : (pair : ℕ) → Listed 6 (Some pair)
  room : Listed 7 None
  form : (offset : ℕ) → Listed 8 (Some offset)
  tags : Listed 9 None
  unlike : (node : ℕ) → Listed 9 (Some node)
  late : (sink : ℕ) → Listed 15 (Some sink)

-- the refusal with a number and a place of the table: so a check names it beside its condition. What is not in the table gives a refusal of the other kind, without a place for one with or with a place for none, which no check can mean (proofs/Numbered, `asked`).
abbrev pub refusal : ℕ → Option ℕ → Refusal
refusal n None =
    cond (eqb n 1) Lists
    (cond (eqb n 2) NoSink
    (cond (eqb n 3) TooMany
    (cond (eqb n 7) Room
    (cond (eqb n 9) Tags
    (Outside 0)))))
refusal n (Some i) =
    cond (eqb n 4) (Outside i)
    (cond (eqb n 6) (Joins i)
    (cond (eqb n 8) (Form i)
    (cond (eqb n 9) (Unlike i)
    (cond (eqb n 15) (Late i)
    Lists))))

-- what a check says: it is passed, or refused
abbrev pub Checked : Type 0
Checked = Result (Unit {0}) Refusal

-- one line of a check: refused where the condition holds, else what the lines after it say
abbrev pub refuse_if : Bool → Refusal → Checked → Checked
refuse_if condition r next = cond condition (Err r) next

-- one check, then another
abbrev pub and_then : Checked → Checked → Checked
and_then (Ok u) next = next
and_then (Err r) next = Err r
