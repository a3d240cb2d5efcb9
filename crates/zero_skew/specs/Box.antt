-- Document 01, "Boxes and diameters".
use Rattle.std.specs.Prelude.{◌≡◌, cond, ◌⊎◌, ℕ, ◌+◌, ◌*◌, ◌≤◌, max, ℤ, pos, ◌+ℤ◌, ◌-ℤ◌, nat_abs}
use mathlib.Core.List.{List, [], ◌∷◌, Memᴰ}
use Rattle.std.specs.Int.Signed.{le_z}
use Rattle.zero_skew.specs.Plane.{Sinks, u, v, dist}

abbrev pub larger : ℤ → ℤ → ℤ
larger a b = cond (le_z a b) b a

abbrev pub smaller : ℤ → ℤ → ℤ
smaller a b = cond (le_z a b) a b

-- the greatest and the least value of f over a list (0 where the list is empty)
unfoldable pub greatest : (ℕ → ℤ) → List ℕ → ℤ
greatest f [] = pos 0
greatest f (i ∷ []) = f i
greatest f (i ∷ (j ∷ l)) = larger (f i) (greatest f (j ∷ l))

unfoldable pub least : (ℕ → ℤ) → List ℕ → ℤ
least f [] = pos 0
least f (i ∷ []) = f i
least f (i ∷ (j ∷ l)) = smaller (f i) (least f (j ∷ l))

-- a box: the least and the greatest u, the least and the greatest v
pub record Bounds : Type 0 where
  pub least_u : ℤ
  pub greatest_u : ℤ
  pub least_v : ℤ
  pub greatest_v : ℤ

-- the greatest and the least value over some sinks along one tilted axis c (u or v), where a sink reaches as far as its own delay to either side
abbrev pub high : Sinks → (ℕ → ℤ) → List ℕ → ℤ
high s c l = greatest (λ j. c j +ℤ pos (s.wait j)) l

abbrev pub low : Sinks → (ℕ → ℤ) → List ℕ → ℤ
low s c l = least (λ j. c j -ℤ pos (s.wait j)) l

-- "The box of a set of sinks is the least and greatest u and the least and greatest v."
abbrev pub box_of : Sinks → List ℕ → Bounds
box_of s l = record { least_u = low s (u s) l; greatest_u = high s (u s) l; least_v = low s (v s) l; greatest_v = high s (v s) l }

-- the width of a set of sinks along one axis
abbrev pub width : Sinks → (ℕ → ℤ) → List ℕ → ℕ
width s c l = nat_abs (high s c l -ℤ low s c l)

-- "Its diameter d is the larger of the two widths."
abbrev pub across : Bounds → ℕ
across b = max (nat_abs (b.greatest_u -ℤ b.least_u)) (nat_abs (b.greatest_v -ℤ b.least_v))

unfoldable pub diameter : Sinks → List ℕ → ℕ
diameter s l = across (box_of s l)

-- the box of two sets together
abbrev pub hull : Bounds → Bounds → Bounds
hull a b =
    record {
      least_u = smaller a.least_u b.least_u;
      greatest_u = larger a.greatest_u b.greatest_u;
      least_v = smaller a.least_v b.least_v;
      greatest_v = larger a.greatest_v b.greatest_v;
    }

-- how far two sinks are apart, their own delays included
abbrev pub apart : Sinks → ℕ → ℕ → ℕ
apart s i j = dist (s.at i) (s.at j) + (s.wait i + s.wait j)

-- Document 000, Lemma 1, with delays: d is the greatest of how far two different sinks of l are apart and of twice the delay of one, and it is reached
pub record GreatestApart (s : Sinks) (l : List ℕ) (d : ℕ) : Type 0 where
  pub of_two : (i j : ℕ) → Memᴰ i l → Memᴰ j l → (i ≡ j → ⊥) → apart s i j ≤ d
  pub of_one : (i : ℕ) → Memᴰ i l → 2 * s.wait i ≤ d
  pub reached : ((i : ℕ) × (j : ℕ) × Memᴰ i l × Memᴰ j l × (i ≡ j → ⊥) × (d ≡ apart s i j)) ⊎ ((i : ℕ) × Memᴰ i l × (d ≡ 2 * s.wait i))
