-- The pair to join is the one that the rule in words chooses, and no other is.
use mathlib.Core.Path.{◌≡◌, refl, sym}
use mathlib.Core.Bool.{Bool, true, false, cond}
use mathlib.Core.List.{List, [], ◌∷◌, ◌++◌}
use Prim.Native.Nat.{ℕ, ◌≤◌, ◌<◌}
use native.Mathlib.Omega.{arith}
use borrow.Author.Tests.{ltb-true, ltb-false}
use lib.Dec.{ltb}
use lib.ListN.{length}
use Rattle.partners.specs.declared.pair.Pair.{Pair}
use Rattle.partners.specs.Closest.{pair, row, pairs, lesser, least_from, best}
use Rattle.partners.specs.Rule.{In, Leads, Chosen}
use Rattle.partners.specs.Rule.In.{hit, next}
use Rattle.partners.specs.Live.{All, Rising}
use Rattle.partners.specs.Live.All.{none, also}
use Rattle.partners.proofs.Members.{all_map, all_join, all_left, all_right, in_all, all_in, skip}
use Rattle.partners.specs.Live.Each.{nil, cons}
use Rattle.partners.proofs.Pairs.{weight, row_all, pairs_within, best_within}

-- ---- in the order of the numbers
record Comes (p q : Pair) : Type 0 where
  low_up : p.low ≤ q.low
  high_up : p.low ≡ q.low → p.high ≤ q.high

data Sorted : List Pair → Type 0 where
  empty : Sorted []
  before : {q : Pair} {qs : List Pair} → All (Comes q) qs → Sorted qs → Sorted (q ∷ qs)

sorted_join : {xs ys : List Pair} → Sorted xs → Sorted ys → All (λ x. All (Comes x) ys) xs → Sorted (xs ++ ys)
sorted_join empty t none = t
sorted_join (before h s) t (also g r) = before (all_join h g) (sorted_join s t r)

row_sorted : (a : ℕ) {bs : List ℕ} → Rising bs → Sorted (row a bs)
row_sorted a nil = empty
row_sorted a (cons {a = b} q r) = before {q = pair a b} (row_all a (all_map (λ c l. record { low_up = omega arith; high_up = λ e. omega arith }) q)) (row_sorted a r)

pairs_sorted : {ls : List ℕ} → Rising ls → Sorted (pairs ls)
pairs_sorted nil = empty
pairs_sorted (cons {a} {ls} q r) =
    sorted_join (row_sorted a r) (pairs_sorted r)
    (row_all a (all_map (λ b i. all_map (λ p w. over b p (in_all w.low_in q)) (pairs_within r)) (all_in ls)))
  where
    over : (b : ℕ) (p : Pair) → a < p.low → Comes (pair a b) p
    over b p h = record { low_up = omega arith; high_up = λ e. (let z : ⊥ = omega arith in absurd z) }

-- ---- the first least of a sorted list goes before all of it
module _ (d : ℕ → ℕ → ℕ) where
  leads_same : (p : Pair) → Leads d p p
  leads_same p = record { nearer = omega arith; then_low = λ e. omega arith; then_high = λ e f. omega arith }

  leads_less : (p q : Pair) → weight d p < weight d q → Leads d p q
  leads_less p q h =
      record {
        nearer = omega arith;
        then_low = λ e. (let z : ⊥ = omega arith in absurd z);
        then_high = λ e f. (let z : ⊥ = omega arith in absurd z);
      }

  leads_comes : (p q : Pair) → weight d p ≤ weight d q → Comes p q → Leads d p q
  leads_comes p q h c = record { nearer = h; then_low = λ e. c.low_up; then_high = λ e f. c.high_up f }

  leads_on : {x p q : Pair} → Leads d x p → Leads d p q → Leads d x q
  leads_on {x} {p} {q} s t =
      record {
        nearer = omega (arith, s.nearer, t.nearer);
        then_low = λ e.
            (let f : weight d x ≡ weight d p = omega (arith, s.nearer, t.nearer) in
            let g : weight d p ≡ weight d q = omega (arith, s.nearer, t.nearer) in
            omega (arith, s.then_low f, t.then_low g));
        then_high = λ e o.
            (let f : weight d x ≡ weight d p = omega (arith, s.nearer, t.nearer) in
            let g : weight d p ≡ weight d q = omega (arith, s.nearer, t.nearer) in
            let u : x.low ≡ p.low = omega (arith, s.then_low f, t.then_low g) in
            let v : p.low ≡ q.low = omega (arith, s.then_low f, t.then_low g) in
            omega (arith, s.then_high f u, t.then_high g v));
      }

  record Less (p q : Pair) (qs : List Pair) (x : Pair) : Type 0 where
    to_first_lem : Leads d x p
    to_second_lem : Leads d x q
    comes : All (Comes x) qs

  lesser_leads : (p q : Pair) {qs : List Pair} → Comes p q → All (Comes p) qs → All (Comes q) qs → Less p q qs (lesser d p q)
  lesser_leads p q {qs} c h g = go (ltb (weight d q) (weight d p)) refl
    where
      go : (t : Bool) → ltb (weight d q) (weight d p) ≡ t → Less p q qs (cond t q p)
      go true e = record { to_first_lem = leads_less q p (ltb-true (weight d q) (weight d p) e); to_second_lem = leads_same q; comes = g }
      go false e = record { to_first_lem = leads_same p; to_second_lem = leads_comes p q (ltb-false (weight d q) (weight d p) e) c; comes = h }

  least_leads : (p : Pair) {qs : List Pair} → All (Comes p) qs → Sorted qs → Leads d (least_from d p qs) p × All (Leads d (least_from d p qs)) qs
  least_leads p none empty = (leads_same p, none)
  least_leads p (also {a = q} {ls = qs} c h) (before g s) =
      let l = lesser_leads p q c h g in
      let r = least_leads (lesser d p q) l.comes s in
      (leads_on r.0 l.to_first_lem, also (leads_on r.0 l.to_second_lem) r.1)

-- ---- each pair of live nodes is in the list
row_each : (P : Pair → Type 0) (a : ℕ) (bs : List ℕ) → All P (row a bs) → All (λ b. P (pair a b)) bs
row_each P a [] h = none
row_each P a (b ∷ bs) (also p h) = also p (row_each P a bs h)

each_pair : (P : Pair → Type 0) {a b : ℕ} {ls : List ℕ} → Rising ls → All P (pairs ls) → In a ls → In b ls → a < b → P (pair a b)
each_pair P {a = a} {b = b} nil h x9 j l = elim x9 [ ]
each_pair P {a} {b} (cons {ls} q r) h hit j l = in_all (skip j (λ e. omega arith)) (row_each P a ls (all_left (row a ls) (pairs ls) h))
each_pair P {a} {b} (cons q r) h (next i) hit l = let m = in_all i q in let z : ⊥ = omega arith in absurd z
each_pair P {a} {b} (cons {a = c} {ls} q r) h (next i) (next j) l = each_pair P r (all_right (row c ls) h) i j l

best_leads : (d : ℕ → ℕ → ℕ) {ls : List ℕ} → Rising ls → 2 ≤ length ls → All (Leads d (best d ls)) (pairs ls)
unfolding best
best_leads d nil h = none
best_leads d (cons q nil) h = none
best_leads d (cons {a} q (cons {a = b} {ls} q' r)) h = go (pairs_sorted (cons q (cons q' r)))
  where
    go : Sorted (pair a b ∷ (row a ls ++ pairs (b ∷ ls))) → All (Leads d (least_from d (pair a b) (row a ls ++ pairs (b ∷ ls)))) (pair a b ∷ (row a ls ++ pairs (b ∷ ls)))
    go (before g s) = let t = least_leads d (pair a b) g s in also t.0 t.1

-- THE RULE holds of the pair to join
pub best_chosen : (d : ℕ → ℕ → ℕ) {live : List ℕ} → Rising live → 2 ≤ length live → Chosen d live (best d live)
best_chosen d {live} r h =
    let w = best_within d r h in
    record {
      low_live = w.low_in;
      high_live = w.high_in;
      up = w.up;
      leads = λ a b i j l. each_pair (Leads d (best d live)) r (best_leads d r h) i j l;
    }

-- and of no other
pub only_chosen : (d : ℕ → ℕ → ℕ) {live : List ℕ} {p q : Pair} → Chosen d live p → Chosen d live q → p ≡ q
only_chosen d {live} {p} {q} c e =
    let s = c.leads q.low q.high e.low_live e.high_live e.up in
    let t = e.leads p.low p.high c.low_live c.high_live c.up in
    let x : weight d p ≡ weight d q = omega (arith, s.nearer, t.nearer) in
    let y : p.low ≡ q.low = omega (arith, s.then_low x, t.then_low (sym x)) in
    let z : p.high ≡ q.high = omega (arith, s.then_high x y, t.then_high (sym x) (sym y)) in
    λ k. record { low = y k; high = z k }
