-- Document 01, "House files": the tree file as bytes, and number 9 for one that is read.
use Rattle.std.specs.Prelude.{Bool, not, ◌&&◌, List, [], ◌∷◌, ℕ, eqb, ltb, ℤ, pos, length, get_or, Ok, None, Some}
use Rattle.lists.specs.First.{first}
use Rattle.measures.specs.Range.{equal}
use Rattle.plane.specs.Refusals.{Checked, refusal, refuse_if, and_then}
use Rattle.plane.specs.Sinks.{sinks_at, prompt}
use Rattle.orders.specs.Nodes.{places_u, places_v, wires}
use Rattle.orders.specs.Joins.{check_order}
use Rattle.fields.specs.Fields.{firsts, seconds, numbers_in}
use Rattle.fields.specs.Form.{form, value_of}
use Rattle.fields.specs.Fields.{fields, version, places, numbers}
use Rattle.house.specs.Reading.{xs_in, ys_in, joins_in}

-- "a tree file 1 to 5"
unfoldable pub tree_file : List ℤ → List ℤ → List ℕ → List ℕ
tree_file xs ys js =
    fields 1
    (version ∷ places xs ys ∷ numbers 2 js ∷ places (places_u (sinks_at xs ys (prompt xs)) js) (places_v (sinks_at xs ys (prompt xs)) js) ∷ numbers 4 (wires (sinks_at xs ys (prompt xs)) js) ∷ [])

-- node k has another U, V or wire in a file than in the lists us, vs and ws
abbrev pub unlike : List ℤ → List ℤ → List ℕ → List ℤ → List ℤ → List ℕ → ℕ → Bool
unlike us vs ws fu fv fw k =
    not (equal (get_or fu k (pos 0)) (get_or us k (pos 0)) && (equal (get_or fv k (pos 0)) (get_or vs k (pos 0)) && eqb (get_or fw k 0) (get_or ws k 0)))

-- "9: tags 4 or 5 not what embedding gives": "wrong count in either: none; else lowest node"
unfoldable pub check_nodes : List ℤ → List ℤ → List ℕ → List ℤ → List ℤ → List ℕ → Checked
check_nodes us vs ws fu fv fw =
    refuse_if (not (eqb (length fu) (length us) && eqb (length fw) (length us))) (refusal 9 None)
    (refuse_if (ltb (first (unlike us vs ws fu fv fw) 0 (length us)) (length us)) (refusal 9 (Some (first (unlike us vs ws fu fv fw) 0 (length us))))
    (Ok tt))

unfoldable pub check_tags : List ℤ → List ℤ → List ℕ → List ℕ → List ℕ → Checked
check_tags xs ys js v4 v5 =
    check_nodes (places_u (sinks_at xs ys (prompt xs)) js) (places_v (sinks_at xs ys (prompt xs)) js) (wires (sinks_at xs ys (prompt xs)) js) (firsts v4) (seconds v4) (numbers_in 4 v5)

-- refusals 8, 2 to 4, 6 and 9
unfoldable pub check_tree_file : List ℕ → Checked
check_tree_file f =
    and_then (form 5 f)
    (and_then (check_order (xs_in f) (ys_in f) (prompt (xs_in f)) (joins_in f))
    (check_tags (xs_in f) (ys_in f) (joins_in f) (value_of f 4) (value_of f 5)))
