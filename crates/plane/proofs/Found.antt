-- The first index at which a test holds, by a list's entries and by numbers: std's `position`, and `first`.
use mathlib.Core.Path.{◌≡◌, refl, sym, ap, ◌∙◌}
use mathlib.Core.Bool.{Bool, true, false, cond}
use mathlib.Core.List.{List, [], ◌∷◌}
use Prim.Native.Nat.{ℕ, suc, ◌+◌, ◌<◌}
use native.Mathlib.Omega.{arith}
use lib.IntN.{ℤ, pos}
use lib.ListN.{length, get_or}
use Rattle.std.specs.Prelude.{position, Option, Some, None, ltb}
use Rattle.std.specs.List.{position_or_len, zip}
use Rattle.std.proofs.lemmas.Slice.Zip.{get_or-zip, length-zip}
use Rattle.lists.specs.First.{first}
use Rattle.measures.specs.Range.{late}
use Rattle.plane.specs.Sinks.{out_of_range, outside, first_outside, too_late, first_late}

-- of a search among n: the index that was found, or none where there is none and the search came to n
abbrev pub found : ℕ → ℕ → Option ℕ
found i n = cond (ltb i n) (Some i) None

module _ {A : Type 0} (t : A → Bool) (d : A) where
  first_is : (l : List A) (p : ℕ → Bool) (i : ℕ) → ((j : ℕ) → j < length l → p (i + j) ≡ t (get_or l j d)) → first p i (length l) ≡ i + position_or_len t l
  first_is [] p i h = omega arith
  first_is (x ∷ l) p i h = go (t x) refl (first_is l p (suc i) (λ j b. let e : suc i + j ≡ i + suc j = omega arith in ap p e ∙ h (suc j) (omega arith)))
    where
      here : p i ≡ t x
      here = let e : i ≡ i + 0 = omega arith in ap p e ∙ h 0 (omega arith)

      go : (b : Bool) → t x ≡ b → first p (suc i) (length l) ≡ suc i + position_or_len t l → first p i (length (x ∷ l)) ≡ i + position_or_len t (x ∷ l)
      go true e later = rw (here, e) (omega arith)
      go false e later = rw (here, e) (omega (arith, later))

  found_at : (l : List A) (p : ℕ → Bool) → ((j : ℕ) → j < length l → p j ≡ t (get_or l j d)) → position t l ≡ found (first p 0 (length l)) (length l)
  found_at l p h =
      let e : first p 0 (length l) ≡ position_or_len t l = omega (arith, first_is l p 0 (λ j b. let z : 0 + j ≡ j = omega arith in rw z (h j b))) in
      rw e

pub late_found : (delays : List ℕ) → position late delays ≡ found (first_late delays) (length delays)
late_found delays = found_at late 0 delays (too_late delays) (λ j h. refl)

pub outside_found : (xs ys : List ℤ) → length xs ≡ length ys → position out_of_range (zip xs ys) ≡ found (first_outside xs ys) (length xs)
outside_found xs ys e =
    let n : length (zip xs ys) ≡ length xs = length-zip xs ys ∙ omega arith in
    let d : ℤ × ℤ = (pos 0, pos 0) in
    found_at out_of_range d (zip xs ys) (outside xs ys) (λ j h. ap out_of_range (sym (get_or-zip xs ys j d (omega arith) (omega arith))))
    ∙ ap (λ (m : ℕ). found (first (outside xs ys) 0 m) m) n
