-- As many different numbers below m as there are leave none out.
use mathlib.Core.Path.{◌≡◌, refl}
use mathlib.Core.Bool.{Bool, true, false, cond}
use Prim.Native.Nat.{ℕ, zero, suc, ◌-◌, ◌≤◌, ◌<◌}
use native.Mathlib.Omega.{arith}
use borrow.Author.Tests.{ltb-true, ltb-false}
use lib.Dec.{ltb}

-- x, one less where it is above v
abbrev squeeze : ℕ → ℕ → ℕ
squeeze v x = cond (ltb x v) x (x - 1)

squeeze_low : (v x m : ℕ) → (x ≡ v → ⊥) → x ≤ m → v ≤ m → squeeze v x < m
squeeze_low v x m d h g = go (ltb x v) refl
  where
    go : (t : Bool) → ltb x v ≡ t → cond t x (x - 1) < m
    go true e = omega (arith, ltb-true x v e)
    go false e = omega (arith, ltb-false x v e, d)

squeeze_apart : (v x y : ℕ) → (x ≡ v → ⊥) → (y ≡ v → ⊥) → squeeze v x ≡ squeeze v y → x ≡ y
squeeze_apart v x y d e q = go (ltb x v) refl (ltb y v) refl q
  where
    go : (s : Bool) → ltb x v ≡ s → (t : Bool) → ltb y v ≡ t → cond s x (x - 1) ≡ cond t y (y - 1) → x ≡ y
    go true a true b r = r
    go true a false b r = omega (arith, ltb-true x v a, ltb-false y v b, d, e)
    go false a true b r = omega (arith, ltb-false x v a, ltb-true y v b, d, e)
    go false a false b r = omega (arith, ltb-false x v a, ltb-false y v b, d, e)

-- no m + 1 different numbers are below m
pigeons : (m : ℕ) (f : ℕ → ℕ) → ((j : ℕ) → j ≤ m → f j < m) → ((i j : ℕ) → i < j → j ≤ m → f i ≡ f j → ⊥) → ⊥
pigeons zero f low apart = omega (arith, low 0 (omega arith))
pigeons (suc m) f low apart =
    pigeons m (λ j. squeeze (f (suc m)) (f j))
    (λ j h. squeeze_low (f (suc m)) (f j) m (apart j (suc m) (omega arith) (omega arith)) (omega (arith, low j (omega arith))) (omega (arith, low (suc m) (omega arith))))
    (λ i j h l e. apart i j h (omega arith) (squeeze_apart (f (suc m)) (f i) (f j) (apart i (suc m) (omega arith) (omega arith)) (apart j (suc m) (omega arith) (omega arith)) e))

-- m different numbers below m leave none out
pub onto : (m : ℕ) (f : ℕ → ℕ) → ((j : ℕ) → j < m → f j < m) → ((i j : ℕ) → i < j → j < m → f i ≡ f j → ⊥) → (k : ℕ) → k < m → ((j : ℕ) → j < m → f j ≡ k → ⊥) → ⊥
onto zero f low apart k h miss = omega arith
onto (suc m) f low apart k h miss =
    pigeons m (λ j. squeeze k (f j))
    (λ j l. squeeze_low k (f j) m (miss j (omega arith)) (omega (arith, low j (omega arith))) (omega arith))
    (λ i j l g e. apart i j l (omega arith) (squeeze_apart k (f i) (f j) (miss i (omega arith)) (miss j (omega arith)) e))
