-- Document 01, "The program and its lines": what the program prints for its input.
use Rattle.std.specs.Prelude.{Bool, cond, List, ℕ, leb, ltb, length, Ok, Err}
use Rattle.zero_skew.specs.Plane.{Sinks}
use Rattle.plane.specs.Sinks.{sinks_at, prompt}
use Rattle.plane.specs.Refusals.{Checked}
use Rattle.orders.specs.Nodes.{places_u, places_v, wires, total}
use Rattle.nearest.specs.Nearest.{order}
use Rattle.subsets.specs.Best.{step_count}
use Rattle.search.specs.Searching.{joins_found}
use Rattle.house.specs.Reading.{check_sink_file, xs_in, ys_in}
use Rattle.lines.specs.Lines.{tree_text, refusal_line, too_long}

-- the lines of the tree that embedding makes of the joining order js
abbrev pub tree_lines : Sinks → List ℕ → Bool → List ℕ
tree_lines s js isProven = tree_text s.n (total s js) isProven js (places_u s js) (places_v s js) (wires s js)

-- "Up to 12 sinks it searches with budget F(n); above, it joins by least diameter"
unfoldable pub joins_of : Sinks → List ℕ
joins_of s = cond (leb s.n 12) (joins_found s (step_count s.n)) (order s s.n)

-- "and says greedy for proven"
unfoldable pub lines_of : Sinks → List ℕ
lines_of s = tree_lines s (joins_of s) (leb s.n 12)

unfoldable pub answer_text : Checked → Sinks → List ℕ
answer_text (Ok u) s = lines_of s
answer_text (Err r) s = refusal_line r

-- "The tree program reads a sink file"; "Input over 32,768 bytes prints "refused input"."
unfoldable pub text_of : List ℕ → List ℕ
text_of f = cond (ltb 32768 (length f)) too_long (answer_text (check_sink_file f) (sinks_at (xs_in f) (ys_in f) (prompt (xs_in f))))
