-- Document 01, "Embedding a joining order": the answer with its refusals.
use Rattle.std.specs.Prelude.{List, ℕ, ◌-◌, ◌*◌, ltb, ℤ, length, None, Ok}
use Rattle.plane.specs.Said.{Said, after}
use Rattle.plane.specs.Refusals.{Checked, refusal, refuse_if, and_then}
use Rattle.plane.specs.Sinks.{sinks_at}
use Rattle.orders.specs.Joins.{check_order}
use Rattle.orders.specs.Nodes.{total}

-- "7: a lent buffer is shorter than what the answer fills in it": m nodes, and the rooms for U, V and wires
abbrev pub check_room : ℕ → ℕ → ℕ → ℕ → Checked
check_room m ru rv rw = refuse_if (ltb ru m) (refusal 7 None) (refuse_if (ltb rv m) (refusal 7 None) (refuse_if (ltb rw m) (refusal 7 None) (Ok tt)))

-- "Building and writing check 1 to 7 in order"
unfoldable pub answer : List ℤ → List ℤ → List ℕ → List ℕ → ℕ → ℕ → ℕ → Said ℕ
answer xs ys delays js ru rv rw = after (and_then (check_order xs ys delays js) (check_room (2 * length xs - 1) ru rv rw)) (total (sinks_at xs ys delays) js)
