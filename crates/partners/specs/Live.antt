-- For the code alone: the live nodes, packed in rising order.
use Rattle.std.specs.Prelude.{◌≡◌, List, [], ◌∷◌, ℕ, ◌+◌, ◌-◌, ◌<◌, length}

-- P of each entry
pub data All {A : Type 0} (P : A → Type 0) : List A → Type 0 where
  none : All P []
  also : {a : A} {ls : List A} → P a → All P ls → All P (a ∷ ls)

-- Q of each entry and those after it
pub data Each (Q : ℕ → List ℕ → Type 0) : List ℕ → Type 0 where
  nil : Each Q []
  cons : {a : ℕ} {ls : List ℕ} → Q a ls → Each Q ls → Each Q (a ∷ ls)

-- each entry is lower than m
abbrev pub Below : ℕ → List ℕ → Type 0
Below m ls = All (λ a. a < m) ls

-- each entry is lower than all that come after it
abbrev pub Rising : List ℕ → Type 0
Rising ls = Each (λ a bs. All (λ b. a < b) bs) ls

-- the live nodes after i joins of n sinks: each join took two away and made one
pub record Packed (n i : ℕ) (live : List ℕ) : Type 0 where
  pub rising : Rising live
  pub low : Below (n + i) live
  pub count : length live ≡ n - i
