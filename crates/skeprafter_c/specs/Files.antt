-- What the functions on house files do: as the library's own, and what they say in six numbers.
use Rattle.std.specs.Prelude.{◌≡◌, List, ℕ, ℤ, length}
use Rattle.plane.specs.Refusals.{Checked}
use Rattle.plane.specs.Sinks.{prompt, check_sinks}
use Rattle.orders.specs.Joins.{check_order}
use Rattle.tree_files.specs.Trees.{tree_file, check_tree_file}
use Rattle.house.specs.Files.{sink_file, joined_file}
use Rattle.house.specs.Writing as writing
use Rattle.house.specs.Writing.{write_answer}
use Rattle.house.specs.Reading as reading
use Rattle.house.specs.Reading.{xs_in, ys_in, joins_in, check_sink_file, check_joined_file, sinks_answer, joins_answer}
use Rattle.skeprafter_c.specs.Words.{words, one_value_word}

-- refusals 1 to 4 and 6 as they were checked, the file, the buffer before and after, and what is said
pub record Writes (checked : Checked) (file out out' said : List ℕ) : Type 0 where
  pub does : writing.Writes checked file out (write_answer checked file (length out)) out'
  pub says : said ≡ words one_value_word (write_answer checked file (length out))

-- the check of the file, its sinks, the buffers before and after, and what is said
pub record ReadsSinks (checked : Checked) (fx fy xs ys xs' ys' : List ℤ) (said : List ℕ) : Type 0 where
  pub does : reading.ReadsSinks checked fx fy xs ys (sinks_answer checked fx (length xs) (length ys)) xs' ys'
  pub says : said ≡ words one_value_word (sinks_answer checked fx (length xs) (length ys))

-- likewise with joins
pub record ReadsJoins (checked : Checked) (fx fy : List ℤ) (fj : List ℕ) (xs ys : List ℤ) (js : List ℕ) (xs' ys' : List ℤ) (js' said : List ℕ) : Type 0 where
  pub does : reading.ReadsJoins checked fx fy fj xs ys js (joins_answer checked fx fj (length xs) (length ys) (length js)) xs' ys' js'
  pub says : said ≡ words one_value_word (joins_answer checked fx fj (length xs) (length ys) (length js))

-- ---- each function: lists or file, the buffers before and after, and what is said. Files of version 1 have no delays.
abbrev pub WritesSinkFile : List ℤ → List ℤ → List ℕ → List ℕ → List ℕ → Type 0
WritesSinkFile xs ys out out' said = Writes (check_sinks 512 xs ys (prompt xs)) (sink_file xs ys) out out' said

abbrev pub WritesJoinedFile : List ℤ → List ℤ → List ℕ → List ℕ → List ℕ → List ℕ → Type 0
WritesJoinedFile xs ys js out out' said = Writes (check_order xs ys (prompt xs) js) (joined_file xs ys js) out out' said

abbrev pub WritesTreeFile : List ℤ → List ℤ → List ℕ → List ℕ → List ℕ → List ℕ → Type 0
WritesTreeFile xs ys js out out' said = Writes (check_order xs ys (prompt xs) js) (tree_file xs ys js) out out' said

abbrev pub ReadsSinkFile : List ℕ → List ℤ → List ℤ → List ℤ → List ℤ → List ℕ → Type 0
ReadsSinkFile file xs ys xs' ys' said = ReadsSinks (check_sink_file file) (xs_in file) (ys_in file) xs ys xs' ys' said

abbrev pub ReadsJoinedFile : List ℕ → List ℤ → List ℤ → List ℕ → List ℤ → List ℤ → List ℕ → List ℕ → Type 0
ReadsJoinedFile file xs ys js xs' ys' js' said = ReadsJoins (check_joined_file file) (xs_in file) (ys_in file) (joins_in file) xs ys js xs' ys' js' said

abbrev pub ReadsTreeFile : List ℕ → List ℤ → List ℤ → List ℕ → List ℤ → List ℤ → List ℕ → List ℕ → Type 0
ReadsTreeFile file xs ys js xs' ys' js' said = ReadsJoins (check_tree_file file) (xs_in file) (ys_in file) (joins_in file) xs ys js xs' ys' js' said
