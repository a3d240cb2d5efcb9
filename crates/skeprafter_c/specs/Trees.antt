-- What the functions that make trees do: as the library's own, and what they say in six numbers.
use Rattle.std.specs.Prelude.{◌≡◌, List, ℕ, ℤ, length}
use Rattle.plane.specs.Said.{told}
use Rattle.embedding.specs.Embedding.{answer}
use Rattle.embedding.specs.Permitted.{Permitted}
use Rattle.nearest.specs.Calls.{check_nearest, tree_answer, Joining, Embedding}
use Rattle.skeprafter_c.specs.Words.{words, no_value, one_value_word}

-- lists and buffers before, buffers after, and what is said
pub record Embeds (xs ys : List ℤ) (delays js : List ℕ) (us vs : List ℤ) (ws : List ℕ) (us' vs' : List ℤ) (ws' said : List ℕ) : Type 0 where
  pub does : Permitted xs ys delays js us vs ws (answer xs ys delays js (length us) (length vs) (length ws)) us' vs' ws'
  pub says : said ≡ words one_value_word (answer xs ys delays js (length us) (length vs) (length ws))

pub record Joins (xs ys : List ℤ) (delays js js' said : List ℕ) : Type 0 where
  pub does : Joining xs ys delays js (told (check_nearest xs ys delays (length js))) js'
  pub says : said ≡ words no_value (told (check_nearest xs ys delays (length js)))

pub record JoinsAndEmbeds (xs ys : List ℤ) (delays js : List ℕ) (us vs : List ℤ) (ws js' : List ℕ) (us' vs' : List ℤ) (ws' said : List ℕ) : Type 0 where
  pub does : Embedding xs ys delays js us vs ws (tree_answer xs ys delays (length js) (length us) (length vs) (length ws)) js' us' vs' ws'
  pub says : said ≡ words one_value_word (tree_answer xs ys delays (length js) (length us) (length vs) (length ws))
