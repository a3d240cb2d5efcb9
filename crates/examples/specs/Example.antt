-- An example: a call, what it says, and what it writes.
use Rattle.std.specs.Prelude.{List, [], ℕ, ◌-◌, ℤ, pos, length, get_or}
use Rattle.zero_skew.specs.Plane.{Sinks, quarters, away}
use Rattle.zero_skew.specs.Box.{Bounds, across}
use Rattle.plane.specs.Said.{Said, after, if_answered}
use Rattle.plane.specs.Said.Said.{answered, refused}
use Rattle.plane.specs.Sinks.{sinks_at, check_sinks, prompt}
use Rattle.plane.specs.Bounds.{box_answer, verdict, widened_by}
use Rattle.plane.specs.Refusals.{Checked}
use Rattle.orders.specs.Joins.{check_order}
use Rattle.orders.specs.Nodes as nodes
use Rattle.orders.specs.Nodes.{places_u, places_v, wires, parent}
use Rattle.embedding.specs.Embedding.{answer}
use Rattle.nearest.specs.Calls.{order_at, check_nearest, tree_answer}
use Rattle.subsets.specs.Best.{step_count}
use Rattle.search.specs.Searching.{table_of, joins_found, search_answer}
use Rattle.search.specs.declared.search.Found.{Found}
use Rattle.house.specs.Files.{sink_file, joined_file}
use Rattle.house.specs.Writing.{write_answer}
use Rattle.house.specs.Reading.{xs_in, ys_in, joins_in, check_sink_file, check_joined_file, sinks_answer, joins_answer}
use Rattle.tree_files.specs.Trees.{tree_file, check_tree_file}
use Rattle.printing.specs.Program.{text_of}
use Rattle.examples.specs.Calls.{Call, Outcome}
use Rattle.examples.specs.Calls.Call.{box, widen, embed, join, embed_nearest, search, say, steps, node, wire, write_sinks, write_joined, write_tree, read_sinks, read_joined, read_tree, print}
use Rattle.examples.specs.Calls.Outcome.{boxed, widened, embedded, joined, built, searched, told, counted, stands, snakes, wrote, got, printed}

-- a box and its diameter
abbrev pub with_diameter : Said Bounds → Said (Bounds × ℕ)
with_diameter (answered b) = answered (b, across b)
with_diameter (refused number place) = refused number place

-- what is said, and what is written for the sinks s and the pairs js
abbrev pub tree_said : Said ℕ → Sinks → List ℕ → Outcome
tree_said said s js = embedded said (if_answered said (places_u s js)) (if_answered said (places_v s js)) (if_answered said (wires s js))

abbrev pub built_said : Said ℕ → Sinks → List ℕ → Outcome
built_said said s js = built said (if_answered said js) (if_answered said (places_u s js)) (if_answered said (places_v s js)) (if_answered said (wires s js))

abbrev pub found_said : Said Found → Sinks → List ℕ → List ℕ → Outcome
found_said said s table js = searched said (if_answered said table) (if_answered said js) (if_answered said (places_u s js)) (if_answered said (places_v s js)) (if_answered said (wires s js))

abbrev pub order_said : Said (Unit {0}) → List ℕ → Outcome
order_said said js = joined said (if_answered said js)

abbrev pub search_says : List ℤ → List ℤ → List ℕ → ℕ → ℕ → Said Found
search_says xs ys delays budget table = search_answer xs ys delays budget table 22 23 23 23

-- a wire, the distance of its ends, and "the surplus is snaked"
abbrev pub surplus : (long far : ℕ) → Outcome
surplus long far = snakes long far (long - far)

-- the distance of nodes k and p
abbrev pub between : List ℤ → List ℤ → ℕ → ℕ → ℕ
between us vs k p = away (get_or us k (pos 0)) (get_or vs k (pos 0)) (get_or us p (pos 0)) (get_or vs p (pos 0))

-- a file that is written after a check, and the sinks and joins of one that is read
abbrev pub file_said : Said ℕ → List ℕ → Outcome
file_said said file = wrote said (if_answered said file)

abbrev pub writing : Checked → List ℕ → ℕ → Outcome
writing checked file room = file_said (write_answer checked file room) file

abbrev pub read_said : Said ℕ → List ℤ → List ℤ → List ℕ → Outcome
read_said said xs ys js = got said (if_answered said xs) (if_answered said ys) (if_answered said js)

abbrev pub reading : Checked → List ℤ → List ℤ → List ℕ → ℕ → Outcome
reading checked xs ys js room = read_said (joins_answer checked xs js room room room) xs ys js

-- what the definitions say of a call
unfoldable pub outcome : Call → Outcome
outcome (box xs ys delays) = boxed (with_diameter (box_answer xs ys delays))
outcome (widen held x y delay) = widened (after (verdict x y delay) tt) (widened_by held x y delay)
outcome (embed xs ys delays js room) = tree_said (answer xs ys delays js room room room) (sinks_at xs ys delays) js
outcome (join xs ys delays room) = order_said (after (check_nearest xs ys delays room) tt) (order_at xs ys delays)
outcome (embed_nearest xs ys delays room) = built_said (tree_answer xs ys delays room room room room) (sinks_at xs ys delays) (order_at xs ys delays)
outcome (search xs ys delays budget table) =
    found_said (search_says xs ys delays budget table) (sinks_at xs ys delays) (table_of (sinks_at xs ys delays) budget) (joins_found (sinks_at xs ys delays) budget)
outcome (say xs ys delays budget table) = told (search_says xs ys delays budget table)
outcome (steps n) = counted (step_count n)
outcome (node xs ys delays js k) =
    stands (nodes.d (sinks_at xs ys delays) js k)
    (quarters (get_or (places_u (sinks_at xs ys delays) js) k (pos 0)) (get_or (places_v (sinks_at xs ys delays) js) k (pos 0)))
outcome (wire xs ys delays js k) =
    surplus (get_or (wires (sinks_at xs ys delays) js) k 0)
    (between (places_u (sinks_at xs ys delays) js) (places_v (sinks_at xs ys delays) js) k (parent (length xs) js k))
outcome (write_sinks xs ys room) = writing (check_sinks 512 xs ys (prompt xs)) (sink_file xs ys) room
outcome (write_joined xs ys js room) = writing (check_order xs ys (prompt xs) js) (joined_file xs ys js) room
outcome (write_tree xs ys js room) = writing (check_order xs ys (prompt xs) js) (tree_file xs ys js) room
outcome (read_sinks f room) = read_said (sinks_answer (check_sink_file f) (xs_in f) room room) (xs_in f) (ys_in f) []
outcome (read_joined f room) = reading (check_joined_file f) (xs_in f) (ys_in f) (joins_in f) room
outcome (read_tree f room) = reading (check_tree_file f) (xs_in f) (ys_in f) (joins_in f) room
outcome (print f) = printed (text_of f)

-- a row of the table: a call, and what it must give
pub record Row : Type 0 where
  pub call : Call
  pub gives : Outcome

unfoldable pub called : Row → Outcome
called r = outcome r.call

unfoldable pub given : Row → Outcome
given r = r.gives
