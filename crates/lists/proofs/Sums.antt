-- Sums over the indices below n: of two functions, of nothing, and of a single term.
use mathlib.Core.Path.{◌≡◌, refl}
use mathlib.Core.Logic.{⊎_elim}
use mathlib.Core.Bool.{cond}
use Prim.Native.Nat.{ℕ, zero, suc, ◌+◌, ◌*◌, ◌≤◌, ◌<◌}
use native.Mathlib.Nat.{zero-mul, one-mul}
use native.Mathlib.Omega.{arith}
use lib.Dec.{eqb}
use borrow.Author.Tests.{eq-eqb, ne_eqb}
use Rattle.lists.specs.Grow.{sum_to}
use Rattle.lists.proofs.Tests.{or_lt}

pub sum_plus : (f g : ℕ → ℕ) (n : ℕ) → sum_to (λ i. f i + g i) n ≡ sum_to f n + sum_to g n
sum_plus f g zero = omega arith
sum_plus f g (suc n) = omega (arith, sum_plus f g n)

pub sum_none : (f : ℕ → ℕ) (n : ℕ) → ((i : ℕ) → i < n → f i ≡ 0) → sum_to f n ≡ 0
sum_none f zero h = refl
sum_none f (suc n) h = omega (arith, h n (omega arith), sum_none f n (λ i p. h i (omega arith)))

-- no term is above the sum
pub sum_over : (f : ℕ → ℕ) (n i : ℕ) → i < n → f i ≤ sum_to f n
sum_over f zero i h = absurd (omega arith)
sum_over f (suc n) i h =
    ⊎_elim (λ p. omega (arith, sum_over f n i p)) (λ p. let e : n ≡ i = omega arith in rw e (omega arith)) (or_lt i n)

-- f at j, and 0 elsewhere
unfoldable pub only : ℕ → (ℕ → ℕ) → ℕ → ℕ
only j f i = cond (eqb i j) 1 0 * f i

only_here : (j : ℕ) (f : ℕ → ℕ) → only j f j ≡ f j
unfolding only
only_here j f = rw (eq-eqb j j refl) (one-mul (f j))

only_not : (j : ℕ) (f : ℕ → ℕ) (i : ℕ) → (i ≡ j → ⊥) → only j f i ≡ 0
unfolding only
only_not j f i h = rw (ne_eqb i j h) (zero-mul (f i))

pub sum_only : (j : ℕ) (f : ℕ → ℕ) (n : ℕ) → j < n → sum_to (only j f) n ≡ f j
sum_only j f zero h = absurd (omega arith)
sum_only j f (suc n) h =
    ⊎_elim
    (λ p. omega (arith, sum_only j f n p, only_not j f n (λ e. omega arith)))
    (λ p. let e : n ≡ j = omega arith in rw e (omega (arith, only_here j f, sum_none (only j f) j (λ i q. only_not j f i (λ d. omega arith)))))
    (or_lt j n)
