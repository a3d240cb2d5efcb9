-- Two calls on a tree file, one after the other, from their contracts alone: what was written is read, and what was read is written.
use mathlib.Core.Path.{◌≡◌, ◌∙◌}
use mathlib.Core.List.{List}
use Prim.Native.Nat.{ℕ, ◌-◌, ◌*◌, ◌≤◌}
use native.Mathlib.Omega.{arith}
use Rattle.std.specs.Prelude.{Ok}
use lib.IntN.{ℤ}
use lib.ListN.{length, take}
use Rattle.plane.specs.Said.{Said}
use Rattle.plane.specs.Said.Said.{answered}
use Rattle.plane.specs.Sinks.{prompt}
use Rattle.plane.proofs.Checks.{both_pass}
use Rattle.orders.specs.Joins.{check_order}
use Rattle.orders.proofs.Bounded.{order-sound}
use Rattle.fields.specs.Bytes.{Bytes}
use Rattle.tree_files.specs.Trees.{tree_file, check_tree_file}
use Rattle.fields.specs.Form.{form}
use Rattle.house.specs.Writing.{Writes}
use Rattle.house.specs.Reading.{xs_in, ys_in, joins_in, ReadsJoins}
use Rattle.tree_files.proofs.TreeTrip.{tree_back, tree_kept}
use Rattle.house.proofs.Accepting.{FileAgain, writes_file, wrote, JoinsAgain, reads_joins, got_joins}
use Rattle.house.proofs.Calls.{alike_in, joins_lent}

-- The places and the wires are not handed out, and are the same bytes again
order_in : (f : List ℕ) → check_tree_file f ≡ Ok tt → check_order (xs_in f) (ys_in f) (prompt (xs_in f)) (joins_in f) ≡ Ok tt
unfolding check_tree_file
order_in f q = (both_pass (check_order (xs_in f) (ys_in f) (prompt (xs_in f)) (joins_in f)) _ (both_pass (form 5 f) _ q).1).0

pub tree_written_read : (xs ys : List ℤ) (js out out' : List ℕ) (k : ℕ) → Writes (check_order xs ys (prompt xs) js) (tree_file xs ys js) out (answered k) out'
    → (f : List ℕ) → f ≡ take k out' → (bx by bx' by' : List ℤ) (bj bj' : List ℕ) (said : Said ℕ) → length xs ≤ length bx → length ys ≤ length by → length js ≤ length bj → ReadsJoins (check_tree_file f) (xs_in f) (ys_in f) (joins_in f) bx by bj said bx' by' bj' → JoinsAgain xs ys js said bx' by' bj'
tree_written_read xs ys js out out' k w f lent bx by bx' by' bj bj' said hx hy hj r =
    let (q, e, held) = wrote w in
    let b = tree_back xs ys js q in
    let alike = (order-sound xs ys (prompt xs) js q).sinks.alike in
    reads_joins alike b.checked hx (omega (arith, alike)) hj (rw (lent ∙ held, b.same_x, b.same_y, b.same_j) at r)

pub tree_read_written : (f : List ℕ) → Bytes f → (bx by bx' by' : List ℤ) (bj bj' : List ℕ) (n : ℕ) → ReadsJoins (check_tree_file f) (xs_in f) (ys_in f) (joins_in f) bx by bj (answered n) bx' by' bj'
    → (xs ys : List ℤ) (js : List ℕ) → xs ≡ take n bx' → ys ≡ take n by' → js ≡ take (2 * (n - 1)) bj' → (out out' : List ℕ) (said : Said ℕ) → length f ≤ length out → Writes (check_order xs ys (prompt xs) js) (tree_file xs ys js) out said out' → FileAgain f said out'
tree_read_written f b bx by bx' by' bj bj' n r xs ys js lent-x lent-y lent-j out out' said room w =
    let (q, e, x, y, j) = got_joins (alike_in f) r in
    let fine = order_in f q in
    writes_file fine room (rw (lent-x ∙ x, lent-y ∙ y, lent-j ∙ joins_lent f n bj' fine e ∙ j, tree_kept f b q) at w)
