-- How often a sink stands in a list.
use mathlib.Core.Path.{◌≡◌}
use mathlib.Core.List.{List, [], ◌∷◌, ◌++◌, Memᴰ}
use Prim.Native.Nat.{ℕ, ◌+◌, ◌<◌}
use native.Mathlib.Omega.{arith}
use lib.Dec.{eqb, eqb→eq}
use borrow.Author.Tests.{eq-eqb}
use Rattle.lists.proofs.Tests.{choice}
use Rattle.zero_skew.specs.Tree.{count}

pub count_append : (i : ℕ) (l m : List ℕ) → count i (l ++ m) ≡ count i l + count i m
unfolding count
count_append i [] m = omega arith
count_append i (j ∷ l) m = rw (count_append i l m) (omega arith)

pub count_in : (i : ℕ) (l : List ℕ) → 0 < count i l → Memᴰ i l
unfolding count
count_in i [] = λ h. absurd (omega arith)
count_in i (j ∷ l) = choice (λ c. 0 < c + count i l → Memᴰ i (j ∷ l)) (eqb i j) 1 0
    (λ t h. Memᴰ.head (eqb→eq i j t)) (λ t h. Memᴰ.tail (count_in i l (omega arith)))

pub in_count : (i : ℕ) (l : List ℕ) → Memᴰ i l → 0 < count i l
unfolding count
in_count i [] x' = elim x' [ ]
in_count i (j ∷ l) (Memᴰ.head e) = rw (eq-eqb i j e) (omega arith)
in_count i (j ∷ l) (Memᴰ.tail m) = omega (arith, in_count i l m)
