-- The live nodes packed: two leave, one comes last, and the order rises still.
use mathlib.Core.Path.{◌≡◌, refl, ap}
use mathlib.Core.Bool.{true}
use mathlib.Core.List.{List}
use Prim.Native.Nat.{ℕ, zero, suc, ◌+◌, ◌<◌}
use native.Mathlib.Omega.{arith}
use borrow.Author.Tests.{ne_eqb, eq-eqb}
use lib.ListN.{length, length-append}
use Rattle.lists.specs.Grow.{up_to}
use Rattle.lists.proofs.Grow.{length-up_to}
use Rattle.partners.specs.declared.pair.Pair.{Pair}
use Rattle.partners.specs.Closest.{best, is_of, without, after}
use Rattle.partners.specs.Rule.{In}
use Rattle.partners.specs.Rule.In.{hit, next}
use Rattle.partners.specs.Live.{All, Below, Rising, Packed}
use Rattle.partners.specs.Live.All.{none, also}
use Rattle.partners.specs.Live.Each.{nil, cons}
use Rattle.partners.proofs.Members.{all_map, all_join, all_without, not_of, in_all, skip, rising_more, rising_without}
use Rattle.partners.proofs.Pairs.{Within, best_within}

-- ---- two nodes fewer
none_left : (p : Pair) {ls : List ℕ} → All (λ b. p.high < b) ls → p.low < p.high → length (without p ls) ≡ length ls
none_left p none h = refl
none_left p (also {a} x g) h = rw (not_of p a (λ e. omega arith) (λ e. omega arith)) (ap suc (none_left p g h))

one_left : (p : Pair) {ls : List ℕ} → All (λ b. p.low < b) ls → Rising ls → In p.high ls → p.low < p.high → length (without p ls) + 1 ≡ length ls
one_left p none _ x8 h = elim x8 [ ]
one_left p (also x g) (cons q r) hit h =
    let e : is_of p p.high ≡ true = rw (ne_eqb p.high p.low (λ e. omega arith), eq-eqb p.high p.high refl) in
    rw e (omega (arith, none_left p q h))
one_left p (also {a} x g) (cons q r) (next i) h =
    let l = in_all i q in
    rw (not_of p a (λ e. omega arith) (λ e. omega arith)) (omega (arith, one_left p g r i h))

pub two_left : (p : Pair) {ls : List ℕ} → Rising ls → Within ls p → length (without p ls) + 2 ≡ length ls
two_left p r w = go r w.low_in w.high_in
  where
    go : {ls : List ℕ} → Rising ls → In p.low ls → In p.high ls → length (without p ls) + 2 ≡ length ls
    go nil x5 j = elim x5 [ ]
    go (cons {a} {ls} q s) hit j =
        let e : is_of p p.low ≡ true = rw (eq-eqb p.low p.low refl) in
        rw e (omega (arith, one_left p q s (skip j (λ z. omega (arith, w.up))) w.up))
    go (cons q s) (next i) hit = let l = in_all i q in let b : ⊥ = omega (arith, w.up) in absurd b
    go (cons {a} q s) (next i) (next j) =
        let l = in_all i q in
        let k = in_all j q in
        rw (not_of p a (λ e. omega arith) (λ e. omega arith)) (omega (arith, go s i j))

-- ---- all sinks
pub up_below : (n : ℕ) → Below n (up_to n)
up_below zero = none
up_below (suc n) = all_join (all_map (λ a h. omega arith) (up_below n)) (also (omega (arith, length-up_to n)) none)

up_rising : (n : ℕ) → Rising (up_to n)
up_rising zero = nil
up_rising (suc n) = rw (length-up_to n) (rising_more n (up_rising n) (up_below n))

pub packed_begin : (n : ℕ) → Packed n 0 (up_to n)
packed_begin n = let e : n + 0 ≡ n = omega arith in record { rising = up_rising n; low = rw e (up_below n); count = rw length-up_to (omega arith) }

-- ---- a join: drop two, append one, and the order is kept
pub packed_turn : {n i : ℕ} {live : List ℕ} (p : Pair) → Packed n i live → Within live p → Packed n (i + 1) (after p (n + i) live)
packed_turn {n} {i} {live} p v w =
    let e : n + (i + 1) ≡ n + i + 1 = omega arith in
    record {
      rising = rising_more (n + i) (rising_without p v.rising) (all_without p v.low);
      low = rw e (all_join (all_map (λ a l. omega arith) (all_without p v.low)) (also (omega arith) none));
      count = rw length-append (omega (arith, v.count, two_left p v.rising w));
    }

-- the best pair is one of the live nodes'
pub packed_within : (d : ℕ → ℕ → ℕ) {n i : ℕ} {live : List ℕ} → Packed n i live → i + 1 < n → Within live (best d live)
packed_within d v h = best_within d v.rising (omega (arith, v.count))
