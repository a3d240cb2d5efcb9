-- Picking comes to an end: each time a row is looked through again, one row less names a node that is gone.
use mathlib.Core.Path.{◌≡◌}
use mathlib.Core.Logic.{⊎_elim}
use mathlib.Core.Bool.{Bool, true, false, cond}
use mathlib.Core.List.{List}
use Prim.Native.Nat.{ℕ, zero, suc, ◌<◌}
use native.Mathlib.Omega.{arith}
use borrow.Author.Tests.{eq-eqb, ne_eqb}
use lib.Dec.{eqb}
use lib.ListN.{length, get_or}
use Rattle.lists.specs.First.{any}
use Rattle.lists.specs.Grow.{sum_to}
use Rattle.lists.proofs.Any.{any_yes, any_none}
use Rattle.lists.proofs.Grow.{sum_same}
use Rattle.lists.proofs.Tests.{or_lt}
use Rattle.partners.specs.declared.rows.Rows.{Rows}
use Rattle.partners.specs.Rows.{row_at}

-- a sum with one term less
sum_less : (f g : ℕ → ℕ) (n a : ℕ) → a < n → f a < g a → ((i : ℕ) → i < n → (i ≡ a → ⊥) → f i ≡ g i) → sum_to f n < sum_to g n
sum_less f g zero a h l e = let z : ⊥ = omega arith in absurd z
sum_less f g (suc n) a h l e =
    ⊎_elim
    (λ p. omega (arith, e n (omega arith) (λ q. omega arith), sum_less f g n a p l (λ i k. e i (omega arith))))
    (λ p. (let q : n ≡ a = omega arith in rw q (omega (arith, sum_same f g a (λ i k. e i (omega arith) (λ d. omega arith))))))
    (or_lt a n)

-- whether node j is live
abbrev is_live : List ℕ → ℕ → Bool
is_live live j = any (λ i. eqb (get_or live i 0) j) (length live)

-- of the first k rows, those whose partner is gone
unfoldable pub gone : List ℕ → Rows → ℕ → ℕ
gone live rows k = sum_to (λ t. cond (is_live live (row_at rows t).at) 0 1) k

pub gone_less : (live : List ℕ) (rows rows' : Rows) (k a b : ℕ) → a < k → ((t : ℕ) → t < length live → get_or live t 0 ≡ (row_at rows a).at → ⊥) → b < length live → get_or live b 0 ≡ (row_at rows' a).at → ((t : ℕ) → t < k → (t ≡ a → ⊥) → (row_at rows' t).at ≡ (row_at rows t).at) → gone live rows' k < gone live rows k
unfolding gone
gone_less live rows rows' k a b h none l e same =
    let dead : is_live live (row_at rows a).at ≡ false = any_none (λ i. eqb (get_or live i 0) (row_at rows a).at) (length live) (λ i g. ne_eqb (get_or live i 0) (row_at rows a).at (none i g)) in
    let live_now : is_live live (row_at rows' a).at ≡ true = any_yes (λ i. eqb (get_or live i 0) (row_at rows' a).at) (length live) b l (eq-eqb (get_or live b 0) (row_at rows' a).at e) in
    sum_less (λ t. cond (is_live live (row_at rows' t).at) 0 1) (λ t. cond (is_live live (row_at rows t).at) 0 1) k a h (rw (dead, live_now) (omega arith)) (λ i g d. rw (same i g d))
