-- How long a tree file is, and that it begins as a joined file.
use mathlib.Core.Path.{◌≡◌}
use mathlib.Core.List.{List, ◌++◌, append-nil, append_assoc}
use Prim.Native.Nat.{ℕ, ◌*◌, ◌≤◌, ◌<◌}
use native.Mathlib.Omega.{arith}
use lib.IntN.{ℤ}
use lib.ListN.{length, length-append}
use Rattle.plane.specs.Sinks.{sinks_at, prompt}
use Rattle.orders.specs.Joins.{Valid}
use Rattle.orders.specs.Nodes.{places_u, places_v, wires}
use Rattle.orders.specs.Sound.{Sound}
use Rattle.fields.specs.Fields.{field, places, numbers}
use Rattle.tree_files.specs.Trees.{tree_file}
use Rattle.house.specs.Files.{joined_file}
use Rattle.tree_files.proofs.TreeAnswers.{length_u, length-wires}
use Rattle.house.proofs.Lengths.{length-joined_file}
use Rattle.fields.proofs.Fieldwise.{length-field}
use Rattle.fields.proofs.Values.{length_places, length-numbers}

-- a tree file begins as a joined file
pub tree_is : (xs ys : List ℤ) (js : List ℕ) → tree_file xs ys js ≡ joined_file xs ys js ++ (field 4 (places (places_u (sinks_at xs ys (prompt xs)) js) (places_v (sinks_at xs ys (prompt xs)) js)) ++ field 5 (numbers 4 (wires (sinks_at xs ys (prompt xs)) js)))
unfolding tree_file joined_file
tree_is xs ys js = simp (append-nil, append_assoc)

pub length-tree_file : (xs ys : List ℤ) (js : List ℕ) → Valid (length xs) js → 0 < length xs → length (tree_file xs ys js) ≡ 36 * length xs
length-tree_file xs ys js v h =
    rw tree_is (simp (length-append, length-joined_file xs ys js v h, length-field, length_places, length-numbers) (omega (arith, length_u xs ys js, length-wires xs ys js)))

-- "A longest tree file has 18,432 bytes."
pub longest : (xs ys : List ℤ) (js : List ℕ) → Sound xs ys (prompt xs) js → length (tree_file xs ys js) ≤ 18432
longest xs ys js s = omega (arith, length-tree_file xs ys js s.joins.valid s.joins.some, s.joins.few)
