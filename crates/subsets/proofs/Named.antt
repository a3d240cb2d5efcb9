-- The pairs of a joining order name every node but its top once, and each pair names lower nodes.
use mathlib.Core.Path.{◌≡◌, refl, sym, ap, subst, ◌∙◌}
use mathlib.Core.Logic.{⊎_elim}
use mathlib.Core.List.{List, [], ◌∷◌, ◌++◌, Memᴰ}
use Prim.Native.Nat.{ℕ, zero, suc, ◌+◌, ◌-◌, ◌*◌, ◌≤◌, ◌<◌}
use native.Mathlib.Omega.{arith}
use native.Mathlib.Decide.{ℕ_discrete}
use lib.ListN.{length, get_or}
use borrow.Author.Tests.{eq-eqb, ne_eqb}
use Rattle.lists.proofs.Tests.{or_lt}
use Rattle.zero_skew.specs.Tree.{count}
use Rattle.zero_skew.specs.Order.{Order, one, both, sinks_of}
use Rattle.zero_skew.proofs.Count.{count_append, in_count}
use Rattle.subsets.specs.Kept.{join_count, node_in, pairs_of}
use Rattle.subsets.specs.Subsets.{rising}
use Rattle.subsets.proofs.Numbering.{pairs-length}
use Rattle.subsets.proofs.Runs.{rising_append}

-- ---- how often a node is named

count_other : (x y : ℕ) (l : List ℕ) → (x ≡ y → ⊥) → count x (y ∷ l) ≡ count x l
unfolding count
count_other x y l h = rw (ne_eqb x y h) (omega arith)

rising_low : (k a x : ℕ) → x < a → count x (rising k a) ≡ 0
unfolding rising count
rising_low zero a x h = refl
rising_low (suc k) a x h = count_other x a (rising k (suc a)) (λ e. omega arith) ∙ rising_low k (suc a) x (omega arith)

rising_once : (k a x : ℕ) → count x (rising k a) ≤ 1
unfolding rising count
rising_once zero a x = omega arith
rising_once (suc k) a x = go (ℕ_discrete x a) (rising_once k (suc a) x)
  where
    go : Dec (x ≡ a) → count x (rising k (suc a)) ≤ 1 → count x (a ∷ rising k (suc a)) ≤ 1
    go (yes e) ih = rw (eq-eqb x a e) (omega (arith, rising_low k (suc a) x (omega arith)))
    go (no e) ih = omega (arith, count_other x a (rising k (suc a)) e)

-- the top and the nodes that are named make the sinks and the joins
named_all : (n : ℕ) (o : Order) (made x : ℕ) → count x (pairs_of n o made) + count x (node_in n o (made + join_count o) ∷ []) ≡ count x (sinks_of o) + count x (rising (join_count o) (n + made))
unfolding pairs_of node_in join_count sinks_of rising count
named_all n (one i) made x = omega arith
named_all n (both l r) made x =
    let e1 : n + (made + (join_count l + join_count r + 1)) - 1 ≡ n + made + (join_count l + join_count r) = omega arith in
    let e2 : n + (made + join_count l) ≡ n + made + join_count l = omega arith in
    let rs : count x (rising (join_count l + join_count r + 1) (n + made)) ≡ count x (rising (join_count l) (n + made)) + count x (rising (join_count r) (n + made + join_count l)) + count x ((n + made + (join_count l + join_count r)) ∷ []) =
    ap (count x) (rising_append (join_count l + join_count r) 1 (n + made))
    ∙ count_append x (rising (join_count l + join_count r) (n + made)) ((n + made + (join_count l + join_count r)) ∷ [])
    ∙ ap (λ (c : ℕ). c + count x ((n + made + (join_count l + join_count r)) ∷ [])) (ap (count x) (rising_append (join_count l) (join_count r) (n + made)) ∙ count_append x (rising (join_count l) (n + made)) (rising (join_count r) (n + made + join_count l))) in
    omega (
      arith,
      rs,
      ap (λ (c : ℕ). count x (c ∷ [])) e1,
      ap (λ (c : ℕ). count x (rising (join_count r) c)) e2,
      count_append x (sinks_of l) (sinks_of r),
      count_append x (pairs_of n l made) (pairs_of n r (made + join_count l) ++ (node_in n l (made + join_count l) ∷ node_in n r (made + join_count l + join_count r) ∷ [])),
      count_append x (pairs_of n r (made + join_count l)) (node_in n l (made + join_count l) ∷ node_in n r (made + join_count l + join_count r) ∷ []),
      named_all n l made x,
      named_all n r (made + join_count l) x,
    )

pub named_once : (n : ℕ) (o : Order) → ((i : ℕ) → count i (sinks_of o) ≤ 1) → ((i : ℕ) → n ≤ i → count i (sinks_of o) ≡ 0) → (made x : ℕ) → count x (pairs_of n o made) ≤ 1
named_once n o once none made x =
    ⊎_elim
    (λ h. omega (arith, named_all n o made x, once x, rising_low (join_count o) (n + made) x (omega arith)))
    (λ h. omega (arith, named_all n o made x, none x h, rising_once (join_count o) (n + made) x))
    (or_lt x n)

get_d_in : (l : List ℕ) (j : ℕ) → j < length l → Memᴰ (get_or l j 0) l
get_d_in [] j h = absurd (omega arith)
get_d_in (x ∷ l) zero h = Memᴰ.head refl
get_d_in (x ∷ l) (suc j) h = Memᴰ.tail (get_d_in l j (omega arith))

-- entries of a list that holds nothing twice are different
pub once_apart : (l : List ℕ) → ((x : ℕ) → count x l ≤ 1) → (i j : ℕ) → i < j → j < length l → get_or l i 0 ≡ get_or l j 0 → ⊥
unfolding count
once_apart [] once i j h k e = omega arith
once_apart (x ∷ l) once i zero h k e = omega arith
once_apart (x ∷ l) once zero (suc j) h k e =
    let m : 0 < count x l = in_count x l (subst (λ (y : ℕ). Memᴰ y l) (sym e) (get_d_in l j (omega arith))) in
    let o : count x (x ∷ l) ≤ 1 = once x in
    let w : count x (x ∷ l) ≡ 1 + count x l = rw (eq-eqb x x refl) refl in
    omega arith
once_apart (x ∷ l) once (suc i) (suc j) h k e = once_apart l (λ y. omega (arith, once y)) i j (omega arith) (omega arith) e

-- ---- each pair names lower nodes

-- the first pair names nodes below b, the next one below b + 1, and so on
abbrev pub LowFrom : ℕ → List ℕ → Type 0
LowFrom b [] = Unit {0}
LowFrom b (x ∷ []) = Unit {0}
LowFrom b (x ∷ (y ∷ l)) = (x < b) × (y < b) × LowFrom (suc b) l

low_append : (b k : ℕ) (l m : List ℕ) → length l ≡ 2 * k → LowFrom b l → LowFrom (b + k) m → LowFrom b (l ++ m)
low_append b k [] m e h g = subst (λ (x : ℕ). LowFrom x m) (let z : b + k ≡ b = omega arith in z) g
low_append b k (x ∷ []) m e h g = absurd (omega arith)
low_append b zero (x ∷ (y ∷ l)) m e h g = absurd (omega arith)
low_append b (suc k) (x ∷ (y ∷ l)) m e h g =
    (h.0, h.1, low_append (suc b) k l m (omega arith) h.2 (subst (λ (z : ℕ). LowFrom z m) (let z : b + suc k ≡ suc b + k = omega arith in z) g))

pub low_at : (b : ℕ) (l : List ℕ) (i : ℕ) → LowFrom b l → 2 * i + 1 < length l → (get_or l (2 * i) 0 < b + i) × (get_or l (2 * i + 1) 0 < b + i)
low_at b [] i h k = absurd (omega arith)
low_at b (x ∷ []) i h k = absurd (omega arith)
low_at b (x ∷ (y ∷ l)) zero h k = (omega (arith, h.0), omega (arith, h.1))
low_at b (x ∷ (y ∷ l)) (suc i) h k =
    let r = low_at (suc b) l i h.2 (omega arith) in
    let e1 : 2 * suc i ≡ suc (suc (2 * i)) = omega arith in
    let e2 : 2 * suc i + 1 ≡ suc (suc (2 * i + 1)) = omega arith in
    (omega (arith, r.0, ap (λ (j : ℕ). get_or (x ∷ (y ∷ l)) j 0) e1), omega (arith, r.1, ap (λ (j : ℕ). get_or (x ∷ (y ∷ l)) j 0) e2))

module _ (n : ℕ) (some : 0 < n) where
  -- every sink of an order is one of n
  abbrev pub Sinked : Order → Type 0
  Sinked o = (i : ℕ) → n ≤ i → count i (sinks_of o) ≡ 0

  pub sinked_one : (i : ℕ) → Sinked (one i) → i < n
  unfolding sinks_of count
  sinked_one i h = ⊎_elim (λ p. p) (λ p. absurd (omega (arith, h i p, in_count i (i ∷ []) (Memᴰ.head refl)))) (or_lt i n)

  pub sinked_l : (l r : Order) → Sinked (both l r) → Sinked l
  unfolding sinks_of
  sinked_l l r h i k = omega (arith, h i k, count_append i (sinks_of l) (sinks_of r))

  pub sinked_r : (l r : Order) → Sinked (both l r) → Sinked r
  unfolding sinks_of
  sinked_r l r h i k = omega (arith, h i k, count_append i (sinks_of l) (sinks_of r))

  top_low : (o : Order) (m : ℕ) → Sinked o → node_in n o m < n + m
  unfolding node_in
  top_low (one i) m h = omega (arith, sinked_one i h)
  top_low (both l r) m h = omega arith

  pub pairs_low : (o : Order) (made : ℕ) → Sinked o → LowFrom (n + made) (pairs_of n o made)
  unfolding pairs_of
  pairs_low (one i) made h = tt
  pairs_low (both l r) made h =
      let e1 : n + (made + join_count l) ≡ n + made + join_count l = omega arith in
      let tl = top_low l (made + join_count l) (sinked_l l r h) in
      let tr = top_low r (made + join_count l + join_count r) (sinked_r l r h) in
      low_append (n + made) (join_count l) (pairs_of n l made) (pairs_of n r (made + join_count l) ++ (node_in n l (made + join_count l) ∷ node_in n r (made + join_count l + join_count r) ∷ []))
      (pairs-length n l made) (pairs_low l made (sinked_l l r h))
      (low_append (n + made + join_count l) (join_count r) (pairs_of n r (made + join_count l)) (node_in n l (made + join_count l) ∷ node_in n r (made + join_count l + join_count r) ∷ [])
      (pairs-length n r (made + join_count l)) (subst (λ (x : ℕ). LowFrom x (pairs_of n r (made + join_count l))) e1 (pairs_low r (made + join_count l) (sinked_r l r h)))
      (omega arith, omega arith, tt))
