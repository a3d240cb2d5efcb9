-- What a reader may do. "Reading checks 8, 2 to 6, 9, 7"; "an acceptance changes only the entries that the answer needs, from the front".
use Rattle.std.specs.Prelude.{◌≡◌, List, ℕ, ℤ, length}
use Rattle.lists.specs.Grow.{front}
use Rattle.plane.specs.Said.{Said, after, if_answered}
use Rattle.plane.specs.Refusals.{Checked, and_then}
use Rattle.plane.specs.Sinks.{prompt, check_sinks}
use Rattle.orders.specs.Joins.{check_order}
use Rattle.fields.specs.Fields.{firsts, seconds, numbers_in}
use Rattle.fields.specs.Form.{form, value_of}
use Rattle.house.specs.Writing.{room_for}

-- the sinks and the joins that stand in a file
abbrev pub xs_in : List ℕ → List ℤ
xs_in f = firsts (value_of f 2)

abbrev pub ys_in : List ℕ → List ℤ
ys_in f = seconds (value_of f 2)

abbrev pub joins_in : List ℕ → List ℕ
joins_in f = numbers_in 2 (value_of f 3)

-- refusals 8 and 2 to 4, of sinks without delays, as in all files of version 1
unfoldable pub check_sink_file : List ℕ → Checked
check_sink_file f = and_then (form 2 f) (check_sinks 512 (xs_in f) (ys_in f) (prompt (xs_in f)))

-- refusals 8, 2 to 4 and 6
unfoldable pub check_joined_file : List ℕ → Checked
check_joined_file f = and_then (form 3 f) (check_order (xs_in f) (ys_in f) (prompt (xs_in f)) (joins_in f))

-- what a reader says of a file with these sinks, where the buffers have so much room, and with these joins
abbrev pub sinks_answer : Checked → List ℤ → ℕ → ℕ → Said ℕ
sinks_answer checked fx rx ry = after (and_then checked (and_then (room_for (length fx) rx) (room_for (length fx) ry))) (length fx)

abbrev pub joins_answer : Checked → List ℤ → List ℕ → ℕ → ℕ → ℕ → Said ℕ
joins_answer checked fx fj rx ry rj =
    after (and_then checked (and_then (room_for (length fx) rx) (and_then (room_for (length fx) ry) (room_for (length fj) rj)))) (length fx)

-- refusals 8 and 2 to 4 as they were checked, the sinks of the file, the buffers before, the answer, and the buffers after
pub record ReadsSinks (checked : Checked) (fx fy xs ys : List ℤ) (said : Said ℕ) (xs' ys' : List ℤ) : Type 0 where
  pub answers : said ≡ sinks_answer checked fx (length xs) (length ys)
  pub writes_x : xs' ≡ front (if_answered said fx) xs
  pub writes_y : ys' ≡ front (if_answered said fy) ys

-- likewise with joins
pub record ReadsJoins (checked : Checked) (fx fy : List ℤ) (fj : List ℕ) (xs ys : List ℤ) (js : List ℕ) (said : Said ℕ) (xs' ys' : List ℤ) (js' : List ℕ) : Type 0 where
  pub answers : said ≡ joins_answer checked fx fj (length xs) (length ys) (length js)
  pub writes_x : xs' ≡ front (if_answered said fx) xs
  pub writes_y : ys' ≡ front (if_answered said fy) ys
  pub writes_j : js' ≡ front (if_answered said fj) js
