-- Two permitted outcomes of a function on house files coincide: what is said, and every lent buffer.
use mathlib.Core.Path.{◌≡◌, sym, ◌∙◌}
use mathlib.Core.List.{List}
use Prim.Native.Nat.{ℕ}
use lib.IntN.{ℤ}
use Rattle.plane.specs.Refusals.{Checked}
use Rattle.plane.specs.Sinks.{prompt, check_sinks}
use Rattle.orders.specs.Joins.{check_order}
use Rattle.tree_files.specs.Trees.{tree_file, check_tree_file}
use Rattle.house.specs.Files.{sink_file, joined_file}
use Rattle.house.specs.Reading.{xs_in, ys_in, joins_in, check_sink_file, check_joined_file}
use Rattle.skeprafter_c.specs.Files.{Writes, ReadsSinks, ReadsJoins, WritesSinkFile, WritesJoinedFile, WritesTreeFile, ReadsSinkFile, ReadsJoinedFile, ReadsTreeFile}

-- of any check and any file: the three writers
only_written : (checked : Checked) (file out : List ℕ) {o o' s s' : List ℕ} → Writes checked file out o s → Writes checked file out o' s' → (s ≡ s') × (o ≡ o')
only_written checked file out p q = (p.says ∙ sym q.says, p.does.writes ∙ sym q.does.writes)

only_sinks_read : (checked : Checked) (fx fy xs ys : List ℤ) {x x' y y' : List ℤ} {s s' : List ℕ}
    → ReadsSinks checked fx fy xs ys x y s → ReadsSinks checked fx fy xs ys x' y' s' → (s ≡ s') × (x ≡ x') × (y ≡ y')
only_sinks_read checked fx fy xs ys p q = (p.says ∙ sym q.says, p.does.writes_x ∙ sym q.does.writes_x, p.does.writes_y ∙ sym q.does.writes_y)

-- the two readers of joins
only_joins_read : (checked : Checked) (fx fy : List ℤ) (fj : List ℕ) (xs ys : List ℤ) (js : List ℕ) {x x' y y' : List ℤ} {j j' s s' : List ℕ}
    → ReadsJoins checked fx fy fj xs ys js x y j s → ReadsJoins checked fx fy fj xs ys js x' y' j' s' → (s ≡ s') × (x ≡ x') × (y ≡ y') × (j ≡ j')
only_joins_read checked fx fy fj xs ys js p q = (
  p.says ∙ sym q.says,
  p.does.writes_x ∙ sym q.does.writes_x,
  p.does.writes_y ∙ sym q.does.writes_y,
  p.does.writes_j ∙ sym q.does.writes_j,
)

-- ---- each function
pub only_skeprafter_write_sinks : (xs ys : List ℤ) (out : List ℕ) {o o' s s' : List ℕ} → WritesSinkFile xs ys out o s → WritesSinkFile xs ys out o' s' → (s ≡ s') × (o ≡ o')
only_skeprafter_write_sinks xs ys out p q = only_written (check_sinks 512 xs ys (prompt xs)) (sink_file xs ys) out p q

pub only_skeprafter_read_sinks : (file : List ℕ) (xs ys : List ℤ) {x x' y y' : List ℤ} {s s' : List ℕ} → ReadsSinkFile file xs ys x y s → ReadsSinkFile file xs ys x' y' s' → (s ≡ s') × (x ≡ x') × (y ≡ y')
only_skeprafter_read_sinks file xs ys p q = only_sinks_read (check_sink_file file) (xs_in file) (ys_in file) xs ys p q

module _ (xs ys : List ℤ) (js out : List ℕ) {o o' s s' : List ℕ} where
  pub only_skeprafter_write_joined : WritesJoinedFile xs ys js out o s → WritesJoinedFile xs ys js out o' s' → (s ≡ s') × (o ≡ o')
  only_skeprafter_write_joined p q = only_written (check_order xs ys (prompt xs) js) (joined_file xs ys js) out p q

  pub only_skeprafter_write_tree : WritesTreeFile xs ys js out o s → WritesTreeFile xs ys js out o' s' → (s ≡ s') × (o ≡ o')
  only_skeprafter_write_tree p q = only_written (check_order xs ys (prompt xs) js) (tree_file xs ys js) out p q

module _ (file : List ℕ) (xs ys : List ℤ) (js : List ℕ) {x x' y y' : List ℤ} {j j' s s' : List ℕ} where
  pub only_skeprafter_read_joined : ReadsJoinedFile file xs ys js x y j s → ReadsJoinedFile file xs ys js x' y' j' s' → (s ≡ s') × (x ≡ x') × (y ≡ y') × (j ≡ j')
  only_skeprafter_read_joined p q = only_joins_read (check_joined_file file) (xs_in file) (ys_in file) (joins_in file) xs ys js p q

  pub only_skeprafter_read_tree : ReadsTreeFile file xs ys js x y j s → ReadsTreeFile file xs ys js x' y' j' s' → (s ≡ s') × (x ≡ x') × (y ≡ y') × (j ≡ j')
  only_skeprafter_read_tree p q = only_joins_read (check_tree_file file) (xs_in file) (ys_in file) (joins_in file) xs ys js p q
