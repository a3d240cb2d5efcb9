-- Document 01, "Refusal numbers", for the exact search: 1 to 4 with at most 12 sinks and 15, then 7.
use Rattle.std.specs.Prelude.{List, ℕ, ◌-◌, ◌*◌, ◌^◌, ltb, ℤ, length, None}
use Rattle.plane.specs.Refusals.{Checked, refusal, refuse_if, and_then}
use Rattle.plane.specs.Sinks.{check_sinks}
use Rattle.embedding.specs.Embedding.{check_room}

-- "a lent buffer is shorter than what the answer fills in it, the work table than 2^n": n sinks, and the rooms for the table, the pairs, U, V and wires
unfoldable pub check_rooms : ℕ → ℕ → ℕ → ℕ → ℕ → ℕ → Checked
check_rooms n rt rj ru rv rw = refuse_if (ltb rt (2 ^ n)) (refusal 7 None) (refuse_if (ltb rj (2 * (n - 1))) (refusal 7 None) (check_room (2 * n - 1) ru rv rw))

unfoldable pub check_search : List ℤ → List ℤ → List ℕ → ℕ → ℕ → ℕ → ℕ → ℕ → Checked
check_search xs ys delays rt rj ru rv rw = and_then (check_sinks 12 xs ys delays) (check_rooms (length xs) rt rj ru rv rw)
