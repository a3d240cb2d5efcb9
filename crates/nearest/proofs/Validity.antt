-- What is written is a joining order: the check of joins accepts it.
use mathlib.Core.Path.{◌≡◌, refl, sym, ap, ◌∙◌}
use mathlib.Core.Bool.{Bool, true, false, ◌||◌}
use mathlib.Core.List.{List, [], ◌∷◌}
use Prim.Native.Nat.{ℕ, zero, suc, ◌+◌, ◌-◌, ◌*◌, ◌≤◌, ◌<◌}
use native.Mathlib.Omega.{arith}
use borrow.Author.Tests.{eq-eqb}
use lib.Dec.{eqb}
use lib.ListN.{length, get_or, length-drop}
use lib.Seq.{get_or-drop}
use Rattle.zero_skew.specs.Plane.{Sinks}
use Rattle.std.specs.Prelude.{Ok}
use Rattle.orders.specs.Joins.{check_joins, Valid}
use Rattle.orders.proofs.Accepted.{joins_accepted}
use Rattle.partners.specs.declared.pair.Pair.{Pair}
use Rattle.partners.specs.Closest.{is_of, after}
use Rattle.nearest.specs.Nearest.{chosen, joins, order}
use Rattle.partners.specs.Rule.{In}
use Rattle.partners.specs.Live.{All, Each}
use Rattle.partners.specs.Live.All.{none, also}
use Rattle.partners.proofs.Members.{all_map, all_join, all_at, all_kept, in_all, all_in, each_at}
use Rattle.partners.specs.Live.Each.{nil, cons}
use Rattle.nearest.proofs.Running.{Running, more, running_begin, running_turn, running_within}

-- pairs, the lower number first, each below the node that it makes, from node m on
data Pairs : ℕ → List ℕ → Type 0 where
  end : {m : ℕ} → Pairs m []
  step : {m a b : ℕ} {js : List ℕ} → a < b → b < m → Pairs (suc m) js → Pairs m (a ∷ b ∷ js)

pairs_at : {m : ℕ} {js : List ℕ} (i : ℕ) → Pairs m js → 2 * i + 1 < length js → (get_or js (2 * i) 0 < get_or js (2 * i + 1) 0) × (get_or js (2 * i + 1) 0 < m + i)
pairs_at i end h = let b : ⊥ = omega arith in absurd b
pairs_at zero (step l g p) h = (l, omega arith)
pairs_at {m} (suc i) (step {a = a} {b} {js} l g p) h =
    let e : 2 * suc i ≡ suc (suc (2 * i)) = omega arith in
    let f : 2 * suc i + 1 ≡ suc (suc (2 * i + 1)) = omega arith in
    let r = pairs_at i p (omega arith) in
    rw (f, e) (r.0, omega (arith, r.1))

-- a live node, or one to come
data Fresh (live : List ℕ) (m x : ℕ) : Type 0 where
  now_live : In x live → Fresh live m x
  to_come : m ≤ x → Fresh live m x

record Other (live : List ℕ) (m : ℕ) (p : Pair) (x : ℕ) : Type 0 where
  fresh : Fresh live m x
  not_low : p.low ≡ x → ⊥
  not_high : p.high ≡ x → ⊥

no_low : (p : Pair) (y : ℕ) → is_of p y ≡ false → p.low ≡ y → ⊥
no_low p y e q =
    let t : true ≡ false = rw (eq-eqb y p.low (sym q)) at e in
    let z : ◌≡◌ {A = ℕ} 0 1 = cc in omega arith

or_true : (t : Bool) → (t || true) ≡ true
or_true true = refl
or_true false = refl

no_high : (p : Pair) (y : ℕ) → is_of p y ≡ false → p.high ≡ y → ⊥
no_high p y e q =
    let s : is_of p y ≡ true = rw (eq-eqb y p.high (sym q)) (or_true (eqb y p.low)) in
    let t : true ≡ false = sym s ∙ e in
    let z : ◌≡◌ {A = ℕ} 0 1 = cc in omega arith

-- what is fresh after a join was so before it, and is none of its two nodes
others : {live : List ℕ} {m : ℕ} (p : Pair) → p.low < m → p.high < m → All (Other live m p) (after p m live)
others {live} {m} p h g =
    all_join
    (all_map (λ y w. record { fresh = now_live w.0; not_low = no_low p y w.1; not_high = no_high p y w.1 }) (all_kept p (all_in live)))
    (also {a = m} (record { fresh = to_come (omega arith); not_low = λ e. omega arith; not_high = λ e. omega arith }) none)

other : {live : List ℕ} {m x : ℕ} (p : Pair) → p.low < m → p.high < m → Fresh (after p m live) (suc m) x → Other live m p x
other p h g (now_live i) = in_all i (others p h g)
other p h g (to_come l) = record { fresh = to_come (omega arith); not_low = λ e. omega arith; not_high = λ e. omega arith }

abbrev Apart : List ℕ → Type 0
Apart js = Each (λ a bs. All (λ b. a ≡ b → ⊥) bs) js

apart_at : {js : List ℕ} (j k : ℕ) → Apart js → j < k → k < length js → get_or js j 0 ≡ get_or js k 0 → ⊥
apart_at {js} j k a l b e =
    let r = all_at (k - suc j) (each_at j a (omega arith)) (omega (arith, length-drop (suc j) js)) in
    let z : suc j + (k - suc j) ≡ k = omega arith in
    r (e ∙ sym (get_or-drop (suc j) js (k - suc j) 0 ∙ ap (λ (o : ℕ). get_or js o 0) z))

-- k joins from node m on
record Good (live : List ℕ) (m k : ℕ) (js : List ℕ) : Type 0 where
  size : length js ≡ 2 * k
  pairs : Pairs m js
  apart : Apart js
  named : All (Fresh live m) js

good : (s : Sinks) (k : ℕ) {n i : ℕ} {sets : List (List ℕ)} {live : List ℕ} → Running n i sets live → i + k + 1 ≡ n → Good live (n + i) k (joins s k sets live)
unfolding joins
good s zero r e = record { size = refl; pairs = end; apart = nil; named = none }
good s (suc k) {n} {i} {sets} {live} r e =
    let p = chosen s sets live in
    let w = running_within s r (omega arith) in
    let h = in_all w.low_in r.packed.low in
    let g = in_all w.high_in r.packed.low in
    let z : n + (i + 1) ≡ suc (n + i) = omega arith in
    let t = rw z at (good s k {n = n} {i = i + 1} (running_turn p r w) (omega arith)) in
    let o : All (Other live (n + i) p) (joins s k (more sets p) (after p (n + i) live)) = all_map (λ x f. other p h g f) t.named in
    let u : p.low ≡ p.high → ⊥ = λ q. omega (arith, w.up) in
    rw r.size
    (record {
      size = omega (arith, t.size);
      pairs = step w.up g t.pairs;
      apart = cons (also u (all_map (λ x f. f.not_low) o)) (cons (all_map (λ x f. f.not_high) o) t.apart);
      named = also (now_live w.low_in) (also (now_live w.high_in) (all_map (λ x f. f.fresh) o));
    })

pub order-valid : (s : Sinks) (n : ℕ) → 0 < n → Valid n (order s n)
unfolding order
order-valid s n h =
    let t = good s (n - 1) (running_begin n) (omega arith) in
    record {
      count = t.size;
      differ = λ i l e. omega (arith, (pairs_at i t.pairs (omega (arith, t.size))).0);
      low_left = λ i l. omega (arith, pairs_at i t.pairs (omega (arith, t.size)));
      low_right = λ i l. omega (arith, (pairs_at i t.pairs (omega (arith, t.size))).1);
      once = λ j k l b e. apart_at j k t.apart l (omega (arith, t.size)) e;
    }

-- "A pair is written lower number first."
pub order_rising : (s : Sinks) (n : ℕ) → 0 < n → (i : ℕ) → i < n - 1 → get_or (order s n) (2 * i) 0 < get_or (order s n) (2 * i + 1) 0
unfolding order
order_rising s n h i l =
    let t = good s (n - 1) (running_begin n) (omega arith) in
    (pairs_at i t.pairs (omega (arith, t.size))).0

-- the embedding cannot refuse it
pub order_accepted : (s : Sinks) (n : ℕ) → 0 < n → check_joins n (order s n) ≡ Ok tt
order_accepted s n h = joins_accepted n (order s n) (order-valid s n h)
