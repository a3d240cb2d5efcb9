-- What the search for C does: as the library's own, and what it says in six numbers.
use Rattle.std.specs.Prelude.{◌≡◌, List, ℕ, ℤ, length}
use Rattle.search.specs.Searching.{search_answer, Searches}
use Rattle.skeprafter_c.specs.Words.{words, found_values}

-- lists and buffers before, buffers after, and what is said
pub record Searched (xs ys : List ℤ) (delays : List ℕ) (budget : ℕ) (table js : List ℕ) (us vs : List ℤ) (ws table' js' : List ℕ) (us' vs' : List ℤ) (ws' said : List ℕ) : Type 0 where
  pub does : Searches xs ys delays budget table js us vs ws (search_answer xs ys delays budget (length table) (length js) (length us) (length vs) (length ws)) table' js' us' vs' ws'
  pub says : said ≡ words found_values (search_answer xs ys delays budget (length table) (length js) (length us) (length vs) (length ws))
