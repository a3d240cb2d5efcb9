-- How long lines 1 and 2 are at most.
use mathlib.Core.Path.{◌≡◌, ap, ◌∙◌}
use mathlib.Core.Bool.{Bool, true, false}
use mathlib.Core.List.{List, [], ◌∷◌, ◌++◌}
use Prim.Native.Nat.{ℕ, zero, suc, ◌+◌, ◌-◌, ◌*◌, ◌^◌, ◌≤◌, ◌<◌}
use native.Mathlib.Omega.{arith}
use lib.IntN.{ℤ}
use lib.ListN.{length, get_or, length-append}
use mir.Facts.{to_z-of_z}
use mir.Syntax.{w32}
use mir.Val.{SFits, to_z, of_z}
use Rattle.lists.specs.Grow.{sum_to}
use Rattle.orders.specs.Joins.{left, right}
use Rattle.orders.specs.Nodes.{node}
use Rattle.orders.specs.Sound.{Ordered}
use Rattle.orders.proofs.Joined.{root_has}
use Rattle.orders.proofs.Orders.{node-join}
use Rattle.text.specs.Decimal.{blank, decimal, signed}
use Rattle.text.proofs.Decimal.{decimal-length, signed-length}
use Rattle.lines.specs.Brackets.{brackets}
use Rattle.lines.specs.Lines.{feed, mark, first_line, second_line}
use Rattle.lines.specs.Parts.{ParentsUp}
use Rattle.lines.proofs.Children.{around, sink_text}

-- ---- how many figures a node's number, a wire and a place of a refusal have
pub node_figures : (k : ℕ) → k ≤ 1022 → length (decimal k) ≤ 4
node_figures k h = decimal-length 4 k (omega arith) (omega arith)

pub wire_figures : (w : ℕ) → w < 2 ^ 32 → length (decimal w) ≤ 10
wire_figures w h = decimal-length 10 w (omega arith) (omega arith)

pub place_figures : (i : ℕ) → i < 2 ^ 64 → length (decimal i) ≤ 20
place_figures i h = decimal-length 20 i (omega arith) (omega arith)

pub parent_figures : (n : ℕ) (ps : List ℕ) (k : ℕ) → ParentsUp n ps → k < 2 * n - 2 → length (decimal (get_or ps k 0)) ≤ 4
parent_figures n ps k p h = node_figures (get_or ps k 0) (omega (arith, p.low_p k h, p.few))

-- as a coordinate is read from a list of the code
pub coordinate_figures : (x : ℤ) → SFits w32 x → length (signed (to_z w32 (of_z w32 x))) ≤ 11
coordinate_figures x f = rw (to_z-of_z f) (signed-length x f)

pub ruleset figures = (node_figures, wire_figures, place_figures, coordinate_figures)

-- ---- line 1
mark-length : (p : Bool) → length (blank ∷ mark p ++ (feed ∷ [])) ≤ 8
mark-length true = omega arith
mark-length false = omega arith

pub first_length : (n total : ℕ) (p : Bool) → n ≤ 512 → total < 2 ^ 32 → length (first_line n total p) ≤ 33
unfolding first_line
first_length n total p h g =
    simp length-append
    (omega (arith, simp length-append at (mark-length p), decimal-length 3 n (omega arith) (omega arith), wire_figures total g))

-- ---- line 2: the root has three bytes for each join, and at most three for each sink
around_length : (s t : List ℕ) → length (around s t) ≡ 3 + length s + length t
around_length s t = simp length-append (omega arith)

few_sum : (f : ℕ → ℕ) (c m : ℕ) → ((k : ℕ) → k < m → f k ≤ c) → sum_to f m ≤ c * m
few_sum f c zero h = omega arith
few_sum f c (suc m) h = omega (arith, few_sum f c m (λ k l. h k (omega arith)), h m (omega arith))

pub second_length : (n : ℕ) (js : List ℕ) → Ordered n js → length (second_line n js) ≤ 3072
unfolding second_line brackets
second_length n js o =
    let f : ℕ → ℕ = λ k. length (brackets (node n js k)) in
    let r = root_has n js o f (λ i. 3) (λ i h. ap (λ t. length (brackets t)) (node-join n js o i h) ∙ around_length (brackets (node n js (left js i))) (brackets (node n js (right js i)))) in
    let s = few_sum f 3 n (λ k h. rw (sink_text o h) (decimal-length 3 k (omega arith) (omega (arith, o.few)))) in
    let t = few_sum (λ i. 3) 3 (n - 1) (λ k h. omega arith) in
    simp length-append (omega (arith, r, s, t, o.few, o.some))

pub ruleset first_lines = (first_length, second_length)
