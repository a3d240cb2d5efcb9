-- The brackets of a node, from those of its children.
use mathlib.Core.Path.{◌≡◌, sym, ap, ◌∙◌}
use mathlib.Core.List.{List, [], ◌∷◌, ◌++◌}
use Prim.Native.Nat.{ℕ, ◌+◌, ◌-◌, ◌*◌, ◌≤◌, ◌<◌}
use native.Mathlib.Omega.{arith}
use lib.ListN.{get_or}
use Rattle.text.specs.Decimal.{decimal, blank}
use Rattle.text.specs.Written.{Room}
use Rattle.text.specs.declared.page.Page.{Page}
use Rattle.lines.specs.Brackets.{brackets}
use Rattle.orders.specs.Nodes.{node}
use Rattle.orders.specs.Sound.{Ordered}
use Rattle.orders.proofs.Orders.{node-sink, node-join}

-- what stands for a join whose children are written as s and t
abbrev pub around : List ℕ → List ℕ → List ℕ
around s t = 40 ∷ (s ++ (blank ∷ (t ++ (41 ∷ []))))

pub sink_text : {n k : ℕ} {js : List ℕ} → Ordered n js → k < n → brackets (node n js k) ≡ decimal k
unfolding brackets
sink_text o h = ap brackets (node-sink _ _ o _ h)

-- k is a join, and a and b are its children
module _ {n k a b : ℕ} {js : List ℕ} (o : Ordered n js) (h : n ≤ k) (g : k < 2 * n - 1) (p : a ≡ get_or js (2 * (k - n)) 0) (q : b ≡ get_or js (2 * (k - n) + 1) 0) where
  pub join_text : brackets (node n js k) ≡ around (brackets (node n js a)) (brackets (node n js b))
  unfolding brackets
  join_text =
      let e : n + (k - n) ≡ k = omega arith in
      rw (p, q) (ap (λ (i : ℕ). brackets (node n js i)) (sym e) ∙ ap brackets (node-join n js o (k - n) (omega arith)))

  pub join_room : {page : Page} → Room page (brackets (node n js k)) → Room page (around (brackets (node n js a)) (brackets (node n js b)))
  join_room r = rw join_text at r

  pub left_low : a < k
  left_low = omega (arith, p, o.valid.low_left (k - n) (omega arith))

  pub right_low : b < k
  right_low = omega (arith, q, o.valid.low_right (k - n) (omega arith))
