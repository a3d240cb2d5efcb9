-- What a writer may do. "Building and writing check 1 to 7 in order"; "a refusal changes no lent byte".
use Rattle.std.specs.Prelude.{◌≡◌, List, ℕ, ltb, length, None, Ok}
use Rattle.lists.specs.Grow.{front}
use Rattle.plane.specs.Said.{Said, after, if_answered}
use Rattle.plane.specs.Refusals.{Checked, refusal, refuse_if, and_then}

-- "7: a lent buffer is shorter than what the answer fills in it"
abbrev pub room_for : ℕ → ℕ → Checked
room_for needed room = refuse_if (ltb room needed) (refusal 7 None) (Ok tt)

-- what a writer says of a file, where the buffer has so much room
abbrev pub write_answer : Checked → List ℕ → ℕ → Said ℕ
write_answer checked file room = after (and_then checked (room_for (length file) room)) (length file)

-- refusals 1 to 4 and 6 as they were checked, the file, the buffer before, the answer, and the buffer after
pub record Writes (checked : Checked) (file out : List ℕ) (said : Said ℕ) (out' : List ℕ) : Type 0 where
  pub answers : said ≡ write_answer checked file (length out)
  pub writes : out' ≡ front (if_answered said file) out
