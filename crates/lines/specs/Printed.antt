-- What a call that prints may do: the text from the front of the lent buffer, and its length.
use Rattle.std.specs.Prelude.{◌≡◌, List, ℕ, length}
use Rattle.lists.specs.Grow.{front}

-- the text, the buffer before, the answer, and the buffer after
pub record Printed (text old : List ℕ) (said : ℕ) (new : List ℕ) : Type 0 where
  pub answers : said ≡ length text
  pub writes : new ≡ front text old
