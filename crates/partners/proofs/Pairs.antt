-- The first least pair of live nodes is one of their pairs, and measures that agree choose the same.
use mathlib.Core.Path.{◌≡◌, refl, ap, ◌∙◌}
use mathlib.Core.Bool.{Bool, true, false, cond}
use mathlib.Core.List.{List, ◌∷◌, ◌++◌}
use Prim.Native.Nat.{ℕ, ◌≤◌, ◌<◌}
use native.Mathlib.Omega.{arith}
use lib.Dec.{ltb}
use lib.ListN.{length}
use Rattle.partners.specs.declared.pair.Pair.{Pair}
use Rattle.partners.specs.Closest.{pair, row, pairs, lesser, least_from, first_least, best}
use Rattle.partners.specs.Rule.{In}
use Rattle.partners.specs.Rule.In.{hit, next}
use Rattle.partners.specs.Live.{All, Below, Rising}
use Rattle.partners.specs.Live.All.{none, also}
use Rattle.partners.proofs.Members.{all_map, all_zip, all_join, all_in}
use Rattle.partners.specs.Live.Each.{nil, cons}

abbrev pub weight : (ℕ → ℕ → ℕ) → Pair → ℕ
weight d p = d p.low p.high

-- ---- the best pair is one of the live nodes'
pub record Within (ls : List ℕ) (q : Pair) : Type 0 where
  pub low_in : In q.low ls
  pub high_in : In q.high ls
  pub up : q.low < q.high

pub row_all : {P : Pair → Type 0} (a : ℕ) {bs : List ℕ} → All (λ b. P (pair a b)) bs → All P (row a bs)
row_all a none = none
row_all a (also p h) = also p (row_all a h)

pub pairs_within : {ls : List ℕ} → Rising ls → All (Within ls) (pairs ls)
pairs_within nil = none
pairs_within (cons {a} {ls} q r) =
    all_join
    (row_all a (all_map (λ b w. record { low_in = hit; high_in = next w.1; up = w.0 }) (all_zip q (all_in ls))))
    (all_map (λ p w. record { low_in = next w.low_in; high_in = next w.high_in; up = w.up }) (pairs_within r))

least_all : {P : Pair → Type 0} {qs : List Pair} (d : ℕ → ℕ → ℕ) (p : Pair) → P p → All P qs → P (least_from d p qs)
least_all d p h none = h
least_all {P} d p h (also {a = q} x g) = least_all d (lesser d p q) (go (ltb (weight d q) (weight d p))) g
  where
    go : (t : Bool) → P (cond t q p)
    go true = x
    go false = h

head_all : {P : Pair → Type 0} (d : ℕ → ℕ → ℕ) (p : Pair) (qs : List Pair) → All P (p ∷ qs) → P (least_from d p qs)
head_all d p qs (also h g) = least_all d p h g

pub best_within : (d : ℕ → ℕ → ℕ) {ls : List ℕ} → Rising ls → 2 ≤ length ls → Within ls (best d ls)
unfolding best
best_within d nil h = let b : ⊥ = omega arith in absurd b
best_within d (cons q nil) h = let b : ⊥ = omega arith in absurd b
best_within d (cons {a} q (cons {a = b} {ls} q' r)) h = head_all d (pair a b) (row a ls ++ pairs (b ∷ ls)) (pairs_within (cons q (cons q' r)))

-- ---- measures that agree on the nodes below m choose the same pair
module _ (d e : ℕ → ℕ → ℕ) (m : ℕ) (same : (a b : ℕ) → a < m → b < m → d a b ≡ e a b) where
  abbrev Low : Pair → Type 0
  Low p = (p.low < m) × (p.high < m)

  pairs_low : {ls : List ℕ} → Below m ls → All Low (pairs ls)
  pairs_low none = none
  pairs_low (also l b) = all_join (row_all _ (all_map (λ c k. (l, k)) b)) (pairs_low b)

  least_same : {qs : List Pair} (p : Pair) → Low p → All Low qs → least_from d p qs ≡ least_from e p qs
  least_same p l none = refl
  least_same p l (also {a = q} {ls = qs} k g) =
      let x : lesser d p q ≡ lesser e p q = rw (same p.low p.high l.0 l.1, same q.low q.high k.0 k.1) in
      least_same (lesser d p q) (go (ltb (weight d q) (weight d p))) g ∙ ap (λ (o : Pair). least_from e o qs) x
    where
      go : (t : Bool) → Low (cond t q p)
      go true = k
      go false = l

  first_same : {ps : List Pair} → All Low ps → first_least d ps ≡ first_least e ps
  first_same none = refl
  first_same (also {a = p} l g) = least_same p l g

  pub best_same : {ls : List ℕ} → Below m ls → best d ls ≡ best e ls
  unfolding best
  best_same b = first_same (pairs_low b)
