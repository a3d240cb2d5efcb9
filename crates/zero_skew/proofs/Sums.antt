-- The sinks' own delays, summed over a list that holds each sink once, are their sum over all the sinks.
use mathlib.Core.Path.{◌≡◌, refl, sym, ◌∙◌}
use mathlib.Core.Logic.{⊎_elim}
use mathlib.Core.Bool.{cond}
use mathlib.Core.List.{List, [], ◌∷◌, ◌++◌}
use Prim.Native.Nat.{ℕ, ◌+◌, ◌*◌, ◌≤◌, ◌<◌}
use native.Mathlib.Nat.{zero-mul, one-mul, add-mul}
use native.Mathlib.Omega.{arith}
use lib.Dec.{eqb}
use borrow.Author.Tests.{eq-eqb}
use Rattle.lists.specs.Grow.{sum_to}
use Rattle.lists.proofs.Tests.{or_lt}
use Rattle.lists.proofs.Grow.{sum_same}
use Rattle.lists.proofs.Sums.{sum_plus, sum_none, only, sum_only}
use Rattle.zero_skew.specs.Plane.{Sinks}
use Rattle.zero_skew.specs.Tree.{count}

-- the sum of the delays of some sinks
unfoldable pub waits : Sinks → List ℕ → ℕ
waits s [] = 0
waits s (i ∷ l) = s.wait i + waits s l

module _ (s : Sinks) where
  pub waits_append : (l m : List ℕ) → waits s (l ++ m) ≡ waits s l + waits s m
  unfolding waits
  waits_append [] m = omega arith
  waits_append (i ∷ l) m = rw (waits_append l m) (omega arith)

  waits_by_count : (l : List ℕ) (n : ℕ) → ((i : ℕ) → n ≤ i → count i l ≡ 0) → waits s l ≡ sum_to (λ i. count i l * s.wait i) n
  unfolding waits count only
  waits_by_count [] n none = sym (sum_none (λ i. 0 * s.wait i) n (λ i h. zero-mul (s.wait i)))
  waits_by_count (j ∷ l) n none =
      let split = sum_same (λ i. count i (j ∷ l) * s.wait i) (λ i. only j s.wait i + count i l * s.wait i) n
      (λ i h. add-mul (cond (eqb i j) 1 0) (count i l) (s.wait i)) in
      let inside : j < n = ⊎_elim (λ p. p) (λ p. absurd (omega (arith, rw (eq-eqb j j refl) at (none j p)))) (or_lt j n) in
      omega (
        arith,
        split,
        sum_plus (only j s.wait) (λ i. count i l * s.wait i) n,
        sum_only j s.wait n inside,
        waits_by_count l n (λ i h. omega (arith, none i h)),
      )

  pub waits_all : (l : List ℕ) → ((i : ℕ) → i < s.n → count i l ≡ 1) → ((i : ℕ) → s.n ≤ i → count i l ≡ 0) → waits s l ≡ sum_to s.wait s.n
  waits_all l once none =
      waits_by_count l s.n none ∙ sum_same (λ i. count i l * s.wait i) s.wait s.n (λ i h. rw (once i h) (one-mul (s.wait i)))
