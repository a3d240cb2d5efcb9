-- For the code alone: the boxes of all nodes, in one list.
use Rattle.std.specs.Prelude.{ℕ, ◌<◌, List}
use Rattle.measures.specs.Boxes.{hull_of, diam_of, InOrder}
use Rattle.measures.specs.declared.boxes.Box.{Box}
use Rattle.orders.specs.Table.{box_at}

-- the boxes of the first m nodes have their ends in order
abbrev pub Upright : ℕ → List Box → Type 0
Upright m bs = (k : ℕ) → k < m → InOrder (box_at bs k)

-- the diameter of the union of two nodes
unfoldable pub reach : List Box → ℕ → ℕ → ℕ
reach bs a b = diam_of (hull_of (box_at bs a) (box_at bs b))
