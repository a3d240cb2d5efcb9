-- For the code alone: a text that is written on a page, behind what stands there.
use Rattle.std.specs.Prelude.{◌≡◌, List, ℕ, ◌+◌, ◌≤◌, length}
use Rattle.std.proofs.lemmas.List.Edits.{sets}
use Rattle.text.specs.declared.page.Page.{Page}

-- the text fits into the page's buffer behind what stands there
pub record Room (page : Page) (text : List ℕ) : Type 0 where
  pub fits : page.at + length text ≤ length page.out.now

-- the page's buffer has the text behind what stood there, and the rest of it is as it was
pub record Writes (text : List ℕ) (old new : Page) : Type 0 where
  pub same : new.out.ghost_name ≡ old.out.ghost_name
  pub size : length new.out.now ≡ length old.out.now
  pub ends : new.at ≡ old.at + length text
  pub holds : new.out.now ≡ sets old.out.now old.at text
