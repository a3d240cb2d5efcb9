-- Where the joins stand after i of them: the sinks below each node, and the live nodes.
use mathlib.Core.Path.{◌≡◌}
use mathlib.Core.List.{List, [], ◌∷◌, ◌++◌}
use Prim.Native.Nat.{ℕ, ◌+◌, ◌<◌}
use native.Mathlib.Omega.{arith}
use lib.ListN.{length, length-append}
use Rattle.lists.specs.Grow.{up_to}
use Rattle.lists.proofs.Grow.{length-grow}
use Rattle.zero_skew.specs.Plane.{Sinks}
use Rattle.partners.specs.declared.pair.Pair.{Pair}
use Rattle.partners.specs.Closest.{after}
use Rattle.nearest.specs.Nearest.{below, union, chosen, alone}
use Rattle.partners.specs.Live.{Packed}
use Rattle.partners.specs.Rule.{Chosen}
use Rattle.partners.proofs.Pairs.{Within}
use Rattle.partners.proofs.Ruled.{best_chosen}
use Rattle.partners.proofs.Packed.{packed_begin, packed_turn, packed_within}

pub record Running (n i : ℕ) (sets : List (List ℕ)) (live : List ℕ) : Type 0 where
  pub size : length sets ≡ n + i
  pub packed : Packed n i live

abbrev pub more : List (List ℕ) → Pair → List (List ℕ)
more sets p = sets ++ (below sets p ∷ [])

pub running_turn : {n i : ℕ} {sets : List (List ℕ)} {live : List ℕ} (p : Pair) → Running n i sets live → Within live p → Running n (i + 1) (more sets p) (after p (n + i) live)
running_turn p r w = record { size = rw length-append (omega (arith, r.size)); packed = packed_turn p r.packed w }

pub running_begin : (n : ℕ) → Running n 0 (alone n) (up_to n)
running_begin n = let e : n + 0 ≡ n = omega arith in record { size = rw e (length-grow (λ l. length l ∷ []) n); packed = packed_begin n }

-- the pair that is chosen is one of the live nodes'
pub running_within : (s : Sinks) {n i : ℕ} {sets : List (List ℕ)} {live : List ℕ} → Running n i sets live → i + 1 < n → Within live (chosen s sets live)
running_within s {sets = sets} r h = packed_within (union s sets) r.packed h

-- and the one that the rule names
pub running_chosen : (s : Sinks) {n i : ℕ} {sets : List (List ℕ)} {live : List ℕ} → Running n i sets live → i + 1 < n → Chosen (union s sets) live (chosen s sets live)
running_chosen s {n} {i} {sets} r h = best_chosen (union s sets) r.packed.rising (omega (arith, r.packed.count))
