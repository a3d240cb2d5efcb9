-- Document 01, "Joining by least diameter": the pair to join, and the live nodes after it.
use Rattle.std.specs.Prelude.{Bool, ◌||◌, cond, List, [], ◌∷◌, ◌++◌, ℕ, ltb, eqb}
use Rattle.partners.specs.declared.pair.Pair.{Pair}

-- ---- the pair to join, of live nodes in rising order, where the union of nodes a and b measures `d a b`
abbrev pub pair : ℕ → ℕ → Pair
pair a b = record { low = a; high = b }

-- a with each of the nodes after it
abbrev pub row : ℕ → List ℕ → List Pair
row a [] = []
row a (b ∷ later) = pair a b ∷ row a later

-- "A pair is written lower number first." All pairs of live nodes: by their first number, then by their second.
abbrev pub pairs : List ℕ → List Pair
pairs [] = []
pairs (a ∷ later) = row a later ++ pairs later

-- of two pairs the second, but only where it measures less
abbrev pub lesser : (ℕ → ℕ → ℕ) → Pair → Pair → Pair
lesser d p q = cond (ltb (d q.low q.high) (d p.low p.high)) q p

-- the first of the least: of p and the pairs after it
abbrev pub least_from : (ℕ → ℕ → ℕ) → Pair → List Pair → Pair
least_from d p [] = p
least_from d p (q ∷ qs) = least_from d (lesser d p q) qs

abbrev pub first_least : (ℕ → ℕ → ℕ) → List Pair → Pair
first_least d [] = pair 0 0
first_least d (p ∷ ps) = least_from d p ps

-- "Join the two live nodes whose union has the least diameter; then the lower first number; then the lower second."
unfoldable pub best : (ℕ → ℕ → ℕ) → List ℕ → Pair
best d live = first_least d (pairs live)

-- a node of a pair is live no more
abbrev pub is_of : Pair → ℕ → Bool
is_of p a = eqb a p.low || eqb a p.high

abbrev pub without : Pair → List ℕ → List ℕ
without p [] = []
without p (a ∷ live) = cond (is_of p a) (without p live) (a ∷ without p live)

-- the live nodes after a join, which makes node m
abbrev pub after : Pair → ℕ → List ℕ → List ℕ
after p m live = without p live ++ (m ∷ [])
