-- How long the files are, and how one begins as another.
use mathlib.Core.Path.{◌≡◌}
use mathlib.Core.List.{List, ◌++◌, append-nil, append_assoc}
use Prim.Native.Nat.{ℕ, ◌+◌, ◌*◌, ◌<◌}
use native.Mathlib.Omega.{arith}
use lib.IntN.{ℤ}
use lib.ListN.{length, length-append}
use Rattle.orders.specs.Joins.{Valid}
use Rattle.fields.specs.Fields.{field, numbers}
use Rattle.house.specs.Files.{sink_file, joined_file}
use Rattle.fields.proofs.Fieldwise.{length-field}
use Rattle.fields.proofs.Values.{length_places, length-numbers}

pub length-sink_file : (xs ys : List ℤ) → length (sink_file xs ys) ≡ 7 + 8 * length xs
unfolding sink_file
length-sink_file xs ys = simp (length-append, length-field, length_places) (omega arith)

-- a joined file begins as a sink file
pub joined_is : (xs ys : List ℤ) (js : List ℕ) → joined_file xs ys js ≡ sink_file xs ys ++ field 3 (numbers 2 js)
unfolding joined_file sink_file
joined_is xs ys js = simp (append-nil, append_assoc)

pub length-joined_file : (xs ys : List ℤ) (js : List ℕ) → Valid (length xs) js → 0 < length xs → length (joined_file xs ys js) ≡ 6 + 12 * length xs
unfolding joined_file
length-joined_file xs ys js v h = simp (length-append, length-field, length_places, length-numbers) (omega (arith, v.count))
