-- Document 01, "The program and its lines": the tree in brackets.
use Rattle.std.specs.Prelude.{List, [], ◌∷◌, ◌++◌, ℕ}
use Rattle.zero_skew.specs.Order.{Order, one, both}
use Rattle.text.specs.Decimal.{decimal, blank}

-- "A join is written as its two children, each written the same way, in pair order; a sink is its number, without brackets.
-- One blank parts .. children."
unfoldable pub brackets : Order → List ℕ
brackets (one i) = decimal i
brackets (both l r) = 40 ∷ (brackets l ++ (blank ∷ (brackets r ++ (41 ∷ []))))
