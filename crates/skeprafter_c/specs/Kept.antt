-- A box that the caller keeps, as four words: what the functions on boxes do.
use Rattle.std.specs.Prelude.{◌≡◌, List, [], ◌∷◌, ℕ, ℤ, length}
use Rattle.zero_skew.specs.Box.{Bounds}
use Rattle.plane.specs.Said.{Said}
use Rattle.plane.specs.Said.Said.{answered, refused}
use Rattle.measures.specs.Boxes.{box_in}
use Rattle.plane.specs.Bounds.{bounds, box_answer, verdict, widened_by}
use Rattle.skeprafter_c.specs.Words.{words, no_value, answer_words}

-- the box that four words stand for
abbrev pub held : List ℕ → Bounds
held kept = bounds (box_in kept)

-- four words, and the box that they stand for: no other four stand for it (proofs/Standing)
pub record StandsFor (kept : List ℕ) (b : Bounds) : Type 0 where
  pub four : length kept ≡ 4
  pub holds : held kept ≡ b

-- the answer, and the words before and after: they stay where it is a refusal
abbrev pub Keeps : Said Bounds → List ℕ → List ℕ → Type 0
Keeps (answered b) before after = StandsFor after b
Keeps (refused n place) before after = after ≡ before

-- the box of all sinks: the words before and after, and what is said
pub record Boxes (xs ys : List ℤ) (delays kept kept' said : List ℕ) : Type 0 where
  pub keeps : Keeps (box_answer xs ys delays) kept kept'
  pub says : said ≡ words no_value (box_answer xs ys delays)

-- one more sink: the words before, the sink, the words after, and what is said
pub record Widens (kept : List ℕ) (x y : ℤ) (w : ℕ) (kept' said : List ℕ) : Type 0 where
  pub keeps : StandsFor kept' (widened_by (held kept) x y w)
  pub says : said ≡ answer_words no_value (verdict x y w)

-- the four numbers of a box, with sign
abbrev pub ends_of : Bounds → List ℤ
ends_of b = b.least_u ∷ b.greatest_u ∷ b.least_v ∷ b.greatest_v ∷ []
