-- Document 01, "Forms by place in the code": "When an answer is an enum, a definition gives this paper's number and values for every case of the enum". A call answers with values, or is refused with a number and a place: `told` says so of each answer, and where the values are told in other words a definition beside it does (`seen`).
use Rattle.std.specs.Prelude.{List, [], ℕ, Option, Result, Ok, Err}
use Rattle.plane.specs.declared.refusal.Refusal.{Refusal}
use Rattle.plane.specs.Refusals.{Checked, number, place}

pub data Said (A : Type 0) : Type 0 where
  answered : A → Said A
  refused : ℕ → Option ℕ → Said A

abbrev pub refused_by : {A : Type 0} → Refusal → Said A
refused_by r = refused (number r) (place r)

-- what is said after a check: the values, where it is passed
abbrev pub after : {A : Type 0} → Checked → A → Said A
after (Ok u) a = answered a
after (Err r) a = refused_by r

-- "A refusal changes no lent byte": what is written, from the front of a buffer
abbrev pub if_answered : {A B : Type 0} → Said A → List B → List B
if_answered (answered a) l = l
if_answered (refused n p) l = []

-- of every answer: its values, or the refusal's number and place
abbrev pub told : {A : Type 0} → Result A Refusal → Said A
told (Ok a) = answered a
told (Err r) = refused_by r
