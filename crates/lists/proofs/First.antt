-- The first index at which a test holds: what it tells, and a search for it, a turn at a time.
use mathlib.Core.Path.{◌≡◌, refl, sym, ◌∙◌}
use mathlib.Core.Bool.{Bool, true, false, cond}
use Prim.Native.Nat.{ℕ, zero, suc, ◌+◌, ◌-◌, ◌≤◌, ◌<◌}
use native.Mathlib.Omega.{arith}
use native.Mathlib.Numerals.{add-one}
use borrow.Author.Tests.{ltb-true, ltb-false}
use lib.Dec.{ltb}
use Rattle.lists.specs.First.{first, any}

pub first_end : (p : ℕ → Bool) (i k : ℕ) → first p i k ≤ i + k
first_end p i zero = omega arith
first_end p i (suc k) = go (p i) (first_end p (suc i) k)
  where
    go : (t : Bool) → first p (suc i) k ≤ suc i + k → cond t i (first p (suc i) k) ≤ i + suc k
    go true h = omega arith
    go false h = omega arith

pub first_hit : (p : ℕ → Bool) (i k : ℕ) → first p i k < i + k → p (first p i k) ≡ true
first_hit p i zero h = let b : ⊥ = omega arith in absurd b
first_hit p i (suc k) h = go (p i) refl (first_hit p (suc i) k)
  where
    go : (t : Bool) → p i ≡ t → (first p (suc i) k < suc i + k → p (first p (suc i) k) ≡ true) → p (first p i (suc k)) ≡ true
    go true e r = rw (e, e)
    go false e r =
        let q : first p i (suc k) ≡ first p (suc i) k = rw e in
        rw q (r (omega (arith, q)))

pub first_none : (p : ℕ → Bool) (i k : ℕ) → i + k ≤ first p i k → (j : ℕ) → i ≤ j → j < i + k → p j ≡ false
first_none p i zero h j l u = let b : ⊥ = omega arith in absurd b
first_none p i (suc k) h j l u = go (p i) refl (ltb i j) refl (λ a b. first_none p (suc i) k a j b (omega arith))
  where
    go : (s : Bool) → p i ≡ s → (t : Bool) → ltb i j ≡ t → (suc i + k ≤ first p (suc i) k → suc i ≤ j → p j ≡ false) → p j ≡ false
    go true e t f r =
        let q : first p i (suc k) ≡ i = rw e in
        let b : ⊥ = omega (arith, q) in absurd b
    go false e true f r =
        let q : first p i (suc k) ≡ first p (suc i) k = rw e in
        r (omega (arith, q)) (omega (arith, ltb-true i j f))
    go false e false f r = let q : j ≡ i = omega (arith, ltb-false i j f) in rw q e

pub any_no : (p : ℕ → Bool) (n : ℕ) → any p n ≡ false → (j : ℕ) → j < n → p j ≡ false
any_no p n e j h = first_none p 0 n (omega (arith, ltb-false (first p 0 n) n e)) j (omega arith) (omega arith)

-- the search for the first index, a turn at a time: what is left of it, from i on, has the answer
pub record Seek (p : ℕ → Bool) (n i : ℕ) : Type 0 where
  pub within : i ≤ n
  pub same : first p i (n - i) ≡ first p 0 n

pub seek_begin : {p : ℕ → Bool} {n : ℕ} → Seek p n 0
seek_begin {p} {n} = let k : n - 0 ≡ n = omega arith in record { within = omega arith; same = rw k }

pub seek_go : {p : ℕ → Bool} {n i : ℕ} → Seek p n i → i < n → p i ≡ false → Seek p n (i + 1)
seek_go {p} {n} {i} s h e =
    let k : n - i ≡ suc (n - suc i) = omega arith in
    let q : first p i (n - i) ≡ first p (suc i) (n - suc i) = rw (k, e) in
    record { within = omega arith; same = rw add-one (sym q ∙ s.same) }

pub seek_stop : {p : ℕ → Bool} {n i : ℕ} → Seek p n i → i < n → p i ≡ true → i ≡ first p 0 n
seek_stop {p} {n} {i} s h e =
    let k : n - i ≡ suc (n - suc i) = omega arith in
    let q : first p i (n - i) ≡ i = rw (k, e) in
    sym q ∙ s.same

pub seek_end : {p : ℕ → Bool} {n i : ℕ} → Seek p n i → n ≤ i → i ≡ first p 0 n
seek_end {p} {n} {i} s h =
    let k : n - i ≡ 0 = omega arith in
    let q : first p i (n - i) ≡ i = rw k in
    sym q ∙ s.same
