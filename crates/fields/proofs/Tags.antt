-- The tags in the order of a file.
use mathlib.Core.Path.{◌≡◌, refl, ap, ◌∙◌}
use mathlib.Core.List.{[], ◌∷◌}
use Prim.Native.Nat.{ℕ, zero, suc, ◌+◌, ◌≤◌, ◌<◌}
use native.Mathlib.Omega.{arith}
use mathlib.Core.Bool.{false}
use lib.Dec.{eqb}
use lib.ListN.{length, get_or, take}
use lib.Seq.{length-take-le, get_or-take}
use Rattle.fields.specs.declared.tag.Tag.{Tag}
use Rattle.fields.specs.declared.tag.Tag.TheVariants.{Version, Sinks, Joins, Places, Wires}
use Rattle.fields.specs.Tags.{tag_number}

pub few : (t : Tag) → tag_number t ≤ 5
few Version = omega arith
few Sinks = omega arith
few Joins = omega arith
few Places = omega arith
few Wires = omega arith

pub some : (t : Tag) → 1 ≤ tag_number t
some Version = omega arith
some Sinks = omega arith
some Joins = omega arith
some Places = omega arith
some Wires = omega arith

pub other : (t : Tag) → (t ≡ Version → ⊥) → eqb (tag_number t) 1 ≡ false
other Version h = absurd (h refl)
other Sinks h = refl
other Joins h = refl
other Places h = refl
other Wires h = refl

pub all_long : (n : ℕ) → n ≤ 5 → length (take n (Version ∷ Sinks ∷ Joins ∷ Places ∷ Wires ∷ [])) ≡ n
all_long n h = length-take-le n (Version ∷ Sinks ∷ Joins ∷ Places ∷ Wires ∷ []) h

pub in_order : (n i : ℕ) (d : Tag) → n ≤ 5 → i < n → tag_number (get_or (take n (Version ∷ Sinks ∷ Joins ∷ Places ∷ Wires ∷ [])) i d) ≡ i + 1
in_order n i d h l =
    ap tag_number (get_or-take n (Version ∷ Sinks ∷ Joins ∷ Places ∷ Wires ∷ []) i d l) ∙ at i (omega arith)
  where
    at : (i : ℕ) → i < 5 → tag_number (get_or (Version ∷ Sinks ∷ Joins ∷ Places ∷ Wires ∷ []) i d) ≡ i + 1
    at zero m = refl
    at (suc zero) m = refl
    at (suc (suc zero)) m = refl
    at (suc (suc (suc zero))) m = refl
    at (suc (suc (suc (suc zero)))) m = refl
    at (suc (suc (suc (suc (suc k))))) m = absurd (omega arith)
