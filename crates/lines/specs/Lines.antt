-- Document 01, "The program and its lines".
use Rattle.std.specs.Prelude.{Bool, cond, List, [], ◌∷◌, ◌++◌, ℕ, zero, suc, ◌-◌, ◌*◌, eqb, ℤ, pos, get_or, Option, Some, None}
use Rattle.lists.specs.Grow.{tab}
use Rattle.plane.specs.Refusals.{number, place}
use Rattle.plane.specs.declared.refusal.Refusal.{Refusal}
use Rattle.text.specs.Decimal.{decimal, signed, minus, blank}
use Rattle.lines.specs.Brackets.{brackets}
use Rattle.orders.specs.Nodes.{node, parent}

abbrev pub feed : ℕ
feed = 10

-- "One blank parts fields .., and each line ends in a line feed."
abbrev pub line : List (List ℕ) → List ℕ
line [] = feed ∷ []
line (f ∷ []) = f ++ (feed ∷ [])
line (f ∷ g ∷ fs) = f ++ (blank ∷ line (g ∷ fs))

-- the words sinks, wire, proven, greedy, refused, input
abbrev pub sinks : List ℕ
sinks = 115 ∷ 105 ∷ 110 ∷ 107 ∷ 115 ∷ []

abbrev pub wire : List ℕ
wire = 119 ∷ 105 ∷ 114 ∷ 101 ∷ []

abbrev pub proven : List ℕ
proven = 112 ∷ 114 ∷ 111 ∷ 118 ∷ 101 ∷ 110 ∷ []

abbrev pub greedy : List ℕ
greedy = 103 ∷ 114 ∷ 101 ∷ 101 ∷ 100 ∷ 121 ∷ []

abbrev pub refused : List ℕ
refused = 114 ∷ 101 ∷ 102 ∷ 117 ∷ 115 ∷ 101 ∷ 100 ∷ []

abbrev pub input : List ℕ
input = 105 ∷ 110 ∷ 112 ∷ 117 ∷ 116 ∷ []

-- "above, it .. says greedy for proven"
abbrev pub mark : Bool → List ℕ
mark isProven = cond isProven proven greedy

-- "Line 1: the word sinks, the count, the word wire, the total, the mark."
unfoldable pub first_line : ℕ → ℕ → Bool → List ℕ
first_line n total isProven = line (sinks ∷ decimal n ∷ wire ∷ decimal total ∷ mark isProven ∷ [])

-- "Line 2: the tree in brackets": the root is the last node
unfoldable pub second_line : ℕ → List ℕ → List ℕ
second_line n js = line (brackets (node n js (2 * n - 2)) ∷ [])

-- the parent of each node but the root
abbrev pub parents : ℕ → List ℕ → List ℕ
parents n js = tab (parent n js) (2 * n - 2)

-- "parent (- for the root)", where ps has the parents
unfoldable pub parent_field : ℕ → List ℕ → ℕ → List ℕ
parent_field n ps k = cond (eqb k (2 * n - 2)) (minus ∷ []) (decimal (get_or ps k 0))

-- "Then per node: number, U, V, wire, parent"
unfoldable pub node_line : ℕ → List ℕ → List ℤ → List ℤ → List ℕ → ℕ → List ℕ
node_line n ps us vs ws k =
    line (decimal k ∷ signed (get_or us k (pos 0)) ∷ signed (get_or vs k (pos 0)) ∷ decimal (get_or ws k 0) ∷ parent_field n ps k ∷ [])

-- the lines of the first m nodes
unfoldable pub node_lines : ℕ → List ℕ → List ℤ → List ℤ → List ℕ → ℕ → List ℕ
node_lines n ps us vs ws zero = []
node_lines n ps us vs ws (suc m) = node_lines n ps us vs ws m ++ node_line n ps us vs ws m

-- all lines of a tree over n sinks with the pairs js, the places us and vs and the wires ws
unfoldable pub tree_text : ℕ → ℕ → Bool → List ℕ → List ℤ → List ℤ → List ℕ → List ℕ
tree_text n total isProven js us vs ws =
    first_line n total isProven ++ (second_line n js ++ node_lines n (parents n js) us vs ws (2 * n - 1))

-- "A refusal prints "refused", the number and the place if any."
abbrev pub place_field : Option ℕ → List (List ℕ)
place_field None = []
place_field (Some i) = decimal i ∷ []

unfoldable pub refusal_line : Refusal → List ℕ
refusal_line r = line (refused ∷ decimal (number r) ∷ place_field (place r))

-- "Input over 32,768 bytes prints "refused input"."
unfoldable pub too_long : List ℕ
too_long = line (refused ∷ input ∷ [])
