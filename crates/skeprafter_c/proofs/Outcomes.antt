-- Two permitted outcomes of a function that makes trees, of the search, and of the program's lines coincide: what is said, and every lent buffer.
use mathlib.Core.Path.{◌≡◌, sym, ◌∙◌}
use mathlib.Core.List.{List}
use Prim.Native.Nat.{ℕ}
use lib.IntN.{ℤ}
use Rattle.lines.specs.Printed.{Printed}
use Rattle.printing.specs.Program.{text_of}
use Rattle.printing.proofs.Outcomes.{only_tree_lines}
use Rattle.skeprafter_c.specs.Trees.{Embeds, Joins, JoinsAndEmbeds}
use Rattle.skeprafter_c.specs.Searched.{Searched}

pub only_skeprafter_embed : (xs ys : List ℤ) (delays js : List ℕ) (us vs : List ℤ) (ws : List ℕ) {u u' v v' : List ℤ} {w w' s s' : List ℕ}
    → Embeds xs ys delays js us vs ws u v w s → Embeds xs ys delays js us vs ws u' v' w' s' → (s ≡ s') × (u ≡ u') × (v ≡ v') × (w ≡ w')
only_skeprafter_embed xs ys delays js us vs ws p q = (
  p.says ∙ sym q.says,
  p.does.writes_u ∙ sym q.does.writes_u,
  p.does.writes_v ∙ sym q.does.writes_v,
  p.does.writes_w ∙ sym q.does.writes_w,
)

pub only_skeprafter_join_nearest : (xs ys : List ℤ) (delays js : List ℕ) {j j' s s' : List ℕ} → Joins xs ys delays js j s → Joins xs ys delays js j' s' → (s ≡ s') × (j ≡ j')
only_skeprafter_join_nearest xs ys delays js p q = (p.says ∙ sym q.says, p.does.writes ∙ sym q.does.writes)

pub only_skeprafter_embed_nearest : (xs ys : List ℤ) (delays js : List ℕ) (us vs : List ℤ) (ws : List ℕ) {j j' : List ℕ} {u u' v v' : List ℤ} {w w' s s' : List ℕ}
    → JoinsAndEmbeds xs ys delays js us vs ws j u v w s → JoinsAndEmbeds xs ys delays js us vs ws j' u' v' w' s' → (s ≡ s') × (j ≡ j') × (u ≡ u') × (v ≡ v') × (w ≡ w')
only_skeprafter_embed_nearest xs ys delays js us vs ws p q = (
  p.says ∙ sym q.says,
  p.does.writes_j ∙ sym q.does.writes_j,
  p.does.writes_u ∙ sym q.does.writes_u,
  p.does.writes_v ∙ sym q.does.writes_v,
  p.does.writes_w ∙ sym q.does.writes_w,
)

pub only_skeprafter_search : (xs ys : List ℤ) (delays : List ℕ) (budget : ℕ) (table js : List ℕ) (us vs : List ℤ) (ws : List ℕ) {t t' j j' : List ℕ} {u u' v v' : List ℤ} {w w' s s' : List ℕ}
    → Searched xs ys delays budget table js us vs ws t j u v w s → Searched xs ys delays budget table js us vs ws t' j' u' v' w' s' → (s ≡ s') × (t ≡ t') × (j ≡ j') × (u ≡ u') × (v ≡ v') × (w ≡ w')
only_skeprafter_search xs ys delays budget table js us vs ws p q = (
  p.says ∙ sym q.says,
  p.does.writes_table ∙ sym q.does.writes_table,
  p.does.writes_js ∙ sym q.does.writes_js,
  p.does.writes_u ∙ sym q.does.writes_u,
  p.does.writes_v ∙ sym q.does.writes_v,
  p.does.writes_w ∙ sym q.does.writes_w,
)

-- the length of the text, and the buffer
pub only_skeprafter_tree_lines : (input out : List ℕ) {r r' : ℕ} {new new' : List ℕ} → Printed (text_of input) out r new → Printed (text_of input) out r' new' → (r ≡ r') × (new ≡ new')
only_skeprafter_tree_lines = only_tree_lines
