-- The pairs of a joining order over n sinks are a valid joining order (embedding accepts them), and embedding reads the order from them again.
use mathlib.Core.Path.{◌≡◌, sym, ap, ap₂, subst, ◌∙◌}
use mathlib.Core.List.{List, [], ◌∷◌, ◌++◌}
use Prim.Native.Nat.{ℕ, ◌+◌, ◌-◌, ◌*◌, ◌^◌, ◌≤◌, ◌<◌}
use native.Mathlib.Omega.{arith}
use lib.ListN.{length, get_or, take, drop, length-append, get_or-append}
use lib.Seq.{get_or-append-add, sets, sets-eq}
use lib.Count.{ones-ones}
use lib.Pow.{pow_mono}
use Rattle.lists.specs.Grow.{front}
use Rattle.zero_skew.specs.Plane.{Sinks}
use Rattle.zero_skew.specs.Tree.{count}
use Rattle.zero_skew.specs.Order.{Order, one, both, sinks_of, halves, Over}
use Rattle.orders.specs.Joins.{left, right, Valid}
use Rattle.orders.specs.Nodes.{node, total}
use Rattle.orders.specs.Sound.{Ordered}
use Rattle.orders.proofs.Orders.{node-sink, node-join}
use Rattle.orders.proofs.Joined.{halves_are}
use Rattle.subsets.specs.Kept.{join_count, kept_order, node_in, pairs_of}
use Rattle.subsets.proofs.Masks.{over_once}
use Rattle.subsets.proofs.Named.{LowFrom, Sinked, low_at, named_once, once_apart, pairs_low, sinked_l, sinked_one, sinked_r}
use Rattle.subsets.proofs.Numbering.{order_count, pairs-length}

-- the list l stands in js from entry k on
abbrev At : List ℕ → ℕ → List ℕ → Type 0
At js k l = (p : ℕ) → p < length l → get_or js (k + p) 0 ≡ get_or l p 0

at_left : (js : List ℕ) (k : ℕ) (l m : List ℕ) → At js k (l ++ m) → At js k l
at_left js k l m h p g = h p (omega (arith, length-append l m)) ∙ get_or-append l m 0 p g

at_right : (js : List ℕ) (k : ℕ) (l m : List ℕ) → At js k (l ++ m) → At js (k + length l) m
at_right js k l m h p g =
    ap (λ (x : ℕ). get_or js x 0) (let e : k + length l + p ≡ k + (length l + p) = omega arith in e)
    ∙ h (length l + p) (omega (arith, length-append l m)) ∙ get_or-append-add l m p 0

module _ (n : ℕ) (js : List ℕ) (ordered : Ordered n js) where
  some : 0 < n
  some = ordered.some

  -- the node of an order whose pairs stand in js is the order
  node_of : (o : Order) (made : ℕ) → Sinked n some o → made + join_count o ≤ n - 1 → At js (2 * made) (pairs_of n o made) → node n js (node_in n o (made + join_count o)) ≡ o
  unfolding pairs_of node_in join_count
  node_of (one i) made h g at = node-sink n js ordered i (sinked_one n some i h)
  node_of (both l r) made h g at =
      let e : n + (made + (join_count l + join_count r + 1)) - 1 ≡ n + (made + join_count l + join_count r) = omega arith in
      let al = at_left js (2 * made) (pairs_of n l made) (pairs_of n r (made + join_count l) ++ (node_in n l (made + join_count l) ∷ node_in n r (made + join_count l + join_count r) ∷ [])) at in
      let ab = at_right js (2 * made) (pairs_of n l made) (pairs_of n r (made + join_count l) ++ (node_in n l (made + join_count l) ∷ node_in n r (made + join_count l + join_count r) ∷ [])) at in
      let ar = at_left js (2 * made + length (pairs_of n l made)) (pairs_of n r (made + join_count l)) (node_in n l (made + join_count l) ∷ node_in n r (made + join_count l + join_count r) ∷ []) ab in
      let ap2 = at_right js (2 * made + length (pairs_of n l made)) (pairs_of n r (made + join_count l)) (node_in n l (made + join_count l) ∷ node_in n r (made + join_count l + join_count r) ∷ []) ab in
      let k1 : 2 * made + length (pairs_of n l made) ≡ 2 * (made + join_count l) = omega (arith, pairs-length n l made) in
      let k2 : 2 * made + length (pairs_of n l made) + length (pairs_of n r (made + join_count l)) + 0 ≡ 2 * (made + join_count l + join_count r) =
      omega (arith, pairs-length n l made, pairs-length n r (made + join_count l)) in
      let k3 : 2 * made + length (pairs_of n l made) + length (pairs_of n r (made + join_count l)) + 1 ≡ 2 * (made + join_count l + join_count r) + 1 = omega (arith, k2) in
      let el : left js (made + join_count l + join_count r) ≡ node_in n l (made + join_count l) = ap (λ (x : ℕ). get_or js x 0) (sym k2) ∙ ap2 0 (omega arith) in
      let er : right js (made + join_count l + join_count r) ≡ node_in n r (made + join_count l + join_count r) = ap (λ (x : ℕ). get_or js x 0) (sym k3) ∙ ap2 1 (omega arith) in
      ap (node n js) e
      ∙ node-join n js ordered (made + join_count l + join_count r) (omega arith)
      ∙ ap₂ both
      (ap (node n js) el ∙ node_of l made (sinked_l n some l r h) (omega arith) al)
      (ap (node n js) er ∙ node_of r (made + join_count l) (sinked_r n some l r h) (omega arith) (subst (λ (x : ℕ). At js x (pairs_of n r (made + join_count l))) k1 ar))

module _ (s : Sinks) (some : 0 < s.n) (few : s.n ≤ 512) (o : Order) (over : Over s o) (size : join_count o ≡ s.n - 1) where
  once : (i : ℕ) → count i (sinks_of o) ≤ 1
  once i = over_once s o over i

  pub pairs-valid : Valid s.n (pairs_of s.n o 0)
  pairs-valid =
      let c : length (pairs_of s.n o 0) ≡ 2 * (s.n - 1) = pairs-length s.n o 0 ∙ ap (λ (x : ℕ). 2 * x) size in
      let z : s.n + 0 ≡ s.n = omega arith in
      let low : LowFrom s.n (pairs_of s.n o 0) = subst (λ (x : ℕ). LowFrom x (pairs_of s.n o 0)) z (pairs_low s.n some o 0 over.no_other) in
      let apart = once_apart (pairs_of s.n o 0) (named_once s.n o once over.no_other 0) in
      record {
        count = c;
        differ = λ i h. apart (2 * i) (2 * i + 1) (omega arith) (omega arith);
        low_left = λ i h. (low_at s.n (pairs_of s.n o 0) i low (omega arith)).0;
        low_right = λ i h. (low_at s.n (pairs_of s.n o 0) i low (omega arith)).1;
        once = λ i j h k. apart i j h (omega arith);
      }

  pub pairs-ordered : Ordered s.n (pairs_of s.n o 0)
  pairs-ordered = record { some = some; few = few; valid = pairs-valid }

  root_is : (w : Order) → join_count w ≡ s.n - 1 → Sinked s.n some w → node_in s.n w (0 + join_count w) ≡ 2 * s.n - 2
  unfolding node_in join_count
  root_is (one i) e h = omega (arith, sinked_one s.n some i h)
  root_is (both l r) e h = omega arith

  -- the root that embedding finds
  pub root-order : node s.n (pairs_of s.n o 0) (2 * s.n - 2) ≡ o
  root-order =
      ap (node s.n (pairs_of s.n o 0)) (sym (root_is o size over.no_other))
      ∙ node_of s.n (pairs_of s.n o 0) pairs-ordered o 0 over.no_other (omega (arith, size)) (λ p h. ap (λ (x : ℕ). get_or (pairs_of s.n o 0) x 0) (let e : 2 * 0 + p ≡ p = omega arith in e))

  -- so its total is the order's
  pub pairs-total : total s (pairs_of s.n o 0) ≡ halves s o
  pairs-total = sym (halves_are s (pairs_of s.n o 0) pairs-ordered) ∙ ap (halves s) root-order

-- what the code writes for all n sinks, from a table of which it is lent the first `size` entries
pub kept_written : (δ : ℕ → ℕ) (n all : ℕ) (t js js2 : List ℕ) → 0 < n → n ≤ 12 → all ≡ 2 ^ n → 2 * (n - 1) ≤ length js
    → js2 ≡ sets js 0 (pairs_of n (kept_order δ (take all t) (all - 1)) 0) → js2 ≡ front (pairs_of n (kept_order δ (take (2 ^ n) t) (2 ^ n - 1)) 0) js
kept_written δ n all t js js2 h k ea room e =
    let p : 2 ≤ 2 ^ n = pow_mono {i = 1} {j = n} h in
    let f : 2 ^ n ≤ 2 ^ 12 = pow_mono k in
    let w : all - 1 ≡ 2 ^ n - 1 = omega arith in
    let l : length (pairs_of n (kept_order δ (take (2 ^ n) t) (2 ^ n - 1)) 0) ≡ 2 * (n - 1) =
    pairs-length n (kept_order δ (take (2 ^ n) t) (2 ^ n - 1)) 0
    ∙ ap (λ (x : ℕ). 2 * x) (order_count δ (take (2 ^ n) t) (2 ^ n - 1) (omega arith) ∙ ap (λ (x : ℕ). x - 1) (ones-ones n)) in
    e
    ∙ ap₂ (λ (x y : ℕ). sets js 0 (pairs_of n (kept_order δ (take x t) y) 0)) ea w
    ∙ sets-eq (pairs_of n (kept_order δ (take (2 ^ n) t) (2 ^ n - 1)) 0) js 0 (omega arith)
    ∙ ap (λ (x : ℕ). pairs_of n (kept_order δ (take (2 ^ n) t) (2 ^ n - 1)) 0 ++ drop x js) (let y : 0 + length (pairs_of n (kept_order δ (take (2 ^ n) t) (2 ^ n - 1)) 0) ≡ length (pairs_of n (kept_order δ (take (2 ^ n) t) (2 ^ n - 1)) 0) = omega arith in y)
