-- A sum over m different numbers below m is the sum over all the numbers below m.
use mathlib.Core.Path.{◌≡◌, sym, ◌∙◌}
use mathlib.Core.Logic.{⊎_elim}
use mathlib.Core.Bool.{cond}
use Prim.Native.Nat.{ℕ, zero, suc, ◌+◌, ◌*◌, ◌≤◌, ◌<◌}
use native.Mathlib.Nat.{zero-mul, one-mul, add-mul}
use native.Mathlib.Omega.{arith}
use borrow.Author.Tests.{eq-eqb, ne_eqb}
use lib.Dec.{eqb, eqb→eq}
use Rattle.lists.specs.Grow.{sum_to}
use Rattle.lists.proofs.Tests.{or_lt, choice}
use Rattle.lists.proofs.Grow.{sum_same}
use Rattle.lists.proofs.Onto.{onto}
use Rattle.lists.proofs.Sums.{sum_plus, sum_none, only, sum_only}

-- 1 where k is j
abbrev pub is : ℕ → ℕ → ℕ
is k j = cond (eqb k j) 1 0

is_not : (k j : ℕ) → (k ≡ j → ⊥) → is k j ≡ 0
is_not k j h = rw (ne_eqb k j h)

-- how many of the first m values of g are k
unfoldable pub hits : (ℕ → ℕ) → ℕ → ℕ → ℕ
hits g m k = sum_to (λ j. is k (g j)) m

by_hits : (f g : ℕ → ℕ) (m n : ℕ) → ((j : ℕ) → j < m → g j < n) → sum_to (λ j. f (g j)) m ≡ sum_to (λ k. hits g m k * f k) n
unfolding hits only
by_hits f g zero n h = sym (sum_none (λ k. 0 * f k) n (λ k l. zero-mul (f k)))
by_hits f g (suc m) n h =
    let split = sum_same (λ k. (hits g m k + is k (g m)) * f k) (λ k. hits g m k * f k + only (g m) f k) n (λ k l. add-mul (hits g m k) (is k (g m)) (f k)) in
    omega (
      arith,
      split,
      sum_plus (λ k. hits g m k * f k) (only (g m) f) n,
      sum_only (g m) f n (h m (omega arith)),
      by_hits f g m n (λ j l. h j (omega arith)),
    )

module _ (g : ℕ → ℕ) (k : ℕ) where
  pub hits_none : (m : ℕ) → ((j : ℕ) → j < m → k ≡ g j → ⊥) → hits g m k ≡ 0
  unfolding hits
  hits_none m h = sum_none (λ j. is k (g j)) m (λ j l. is_not k (g j) (h j l))

  hits_some : (m j : ℕ) → j < m → k ≡ g j → 0 < hits g m k
  unfolding hits
  hits_some zero j h e = absurd (omega arith)
  hits_some (suc m) j h e =
      ⊎_elim
      (λ p. omega (arith, hits_some m j p e))
      (λ p. let q : j ≡ m = omega arith in let z : is k (g m) ≡ 1 = rw (eq-eqb k (g m) (rw q at e)) in omega arith)
      (or_lt j m)

  hits_few : (m : ℕ) → ((i j : ℕ) → i < j → j < m → g i ≡ g j → ⊥) → hits g m k ≤ 1
  unfolding hits
  hits_few zero h = omega arith
  hits_few (suc m) h =
      choice (λ (v : ℕ). sum_to (λ j. is k (g j)) m + v ≤ 1) (eqb k (g m)) 1 0
      (λ t. omega (arith, hits_none m (λ j l e. h j m l (omega arith) (sym e ∙ eqb→eq k (g m) t))))
      (λ t. omega (arith, hits_few m (λ i j a b. h i j a (omega arith))))

-- m different numbers below m
module _ (g : ℕ → ℕ) (m : ℕ) (low : (j : ℕ) → j < m → g j < m) (apart : (i j : ℕ) → i < j → j < m → g i ≡ g j → ⊥) where
  -- each is met once
  pub hits_once : (k : ℕ) → k < m → hits g m k ≡ 1
  hits_once k h =
      ⊎_elim
      (λ p. omega (arith, hits_few g k m apart))
      (λ p. absurd (onto m g low apart k h (λ j l q. omega (arith, hits_some g k m j l (sym q)))))
      (or_lt 0 (hits g m k))

  pub permuted : (f : ℕ → ℕ) → sum_to (λ j. f (g j)) m ≡ sum_to f m
  permuted f = by_hits f g m m low ∙ sum_same (λ k. hits g m k * f k) f m (λ k h. rw (hits_once k h) (one-mul (f k)))
