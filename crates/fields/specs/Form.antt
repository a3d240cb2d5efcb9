-- Document 01, number 8: a file that is not of the form, and the byte offset that is returned.
use Rattle.std.specs.Prelude.{Bool, cond, not, ◌&&◌, List, ℕ, zero, suc, ◌+◌, ◌-◌, ◌%◌, ◌≤◌, ◌<◌, eqb, ltb, leb, length, get_or, take, drop, Some, Result, Ok, Err}
use Rattle.plane.specs.Refusals.{Checked, refusal, refuse_if}
use Rattle.plane.specs.declared.refusal.Refusal.{Refusal}
use Rattle.fields.specs.Bytes.{number_at}

-- "The record sizes of tags 2 to 5 are 8, 4 (a whole pair), 8 and 4."
abbrev pub record_size : ℕ → ℕ
record_size tag = cond (eqb tag 2) 8 (cond (eqb tag 3) 4 (cond (eqb tag 4) 8 4))

-- "a length that is no multiple of its record size (tag 1: not 1)"
abbrev pub wrong_length : ℕ → ℕ → Bool
wrong_length tag long = cond (eqb tag 1) (not (eqb long 1)) (not (eqb (long % record_size tag) 0))

-- "a version other than 1"
abbrev pub wrong_version : ℕ → ℕ → Bool
wrong_version tag byte = eqb tag 1 && not (eqb byte 1)

-- the length that the field at byte `at` gives its value, the byte after the field, and the value
abbrev pub length_at : List ℕ → ℕ → ℕ
length_at f at = number_at 2 f (at + 1)

abbrev pub next_at : List ℕ → ℕ → ℕ
next_at f at = at + 3 + length_at f at

abbrev pub value_at : List ℕ → ℕ → List ℕ
value_at f at = take (length_at f at) (drop (at + 3) f)

-- what stands where a field is due: the byte that the field ends before, or a refusal
abbrev pub bad_if : Bool → ℕ → Result ℕ Refusal → Result ℕ Refusal
bad_if condition offset next = cond condition (Err (refusal 8 (Some offset))) next

-- "a value running past the end, a length that is no multiple of its record size (tag 1: not 1), or a version other than 1 gives the offset of that tag"
unfoldable pub body_at : List ℕ → ℕ → ℕ → Result ℕ Refusal
body_at f at tag =
    bad_if (wrong_length tag (length_at f at)) at
    (bad_if (ltb (length f) (next_at f at)) at
    (bad_if (wrong_version tag (get_or f (at + 3) 0)) at
    (Ok (next_at f at))))

-- The field that is due at byte `at`: "a wrong tag gives the offset of that tag; a file that ends before or inside a tag's first three bytes
-- gives its own length; the lowest offset counts".
unfoldable pub field_at : List ℕ → ℕ → ℕ → Result ℕ Refusal
field_at f at tag =
    bad_if (leb (length f) at) (length f)
    (bad_if (not (eqb (get_or f at 0) tag)) at
    (bad_if (ltb (length f) (at + 3)) (length f)
    (body_at f at tag)))

abbrev pub after_field : Result ℕ Refusal → (ℕ → Checked) → Checked
after_field (Ok next) go = go next
after_field (Err r) go = Err r

-- so many fields from a tag on; "one that goes on gives the first byte too many"
unfoldable pub form_from : List ℕ → ℕ → ℕ → ℕ → Checked
form_from f zero tag at = refuse_if (ltb at (length f)) (refusal 8 (Some at)) (Ok tt)
form_from f (suc k) tag at = after_field (field_at f at tag) (form_from f k (suc tag))

-- "A sink file has tags 1, 2; a joined file 1 to 3; a tree file 1 to 5": number 8 for a file with the tags from 1 to `last`
abbrev pub form : ℕ → List ℕ → Checked
form last f = form_from f last 1 0

-- the byte after the first k fields, and the value of a tag
unfoldable pub past : List ℕ → ℕ → ℕ
past f zero = 0
past f (suc k) = next_at f (past f k)

abbrev pub value_of : List ℕ → ℕ → List ℕ
value_of f tag = value_at f (past f (tag - 1))

-- for the code alone: the first k fields lie in the file
pub record Formed (k : ℕ) (f : List ℕ) : Type 0 where
  pub header : (t : ℕ) → t < k → past f t + 3 ≤ length f
  pub within : (t : ℕ) → t < k → past f (suc t) ≤ length f
