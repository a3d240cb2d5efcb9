-- Places and numbers in the value of a field: what is written is read back, and what is read is written back.
use mathlib.Core.Path.{◌≡◌, refl, sym, ◌∙◌}
use mathlib.Core.List.{List, [], map, append-nil}
use Prim.Native.Nat.{ℕ, zero, suc, ◌+◌, ◌*◌, ◌/◌, ◌%◌, ◌≤◌, ◌<◌, ◌^◌}
use native.Mathlib.Nat.{add-zero, mul-suc, mul-le-mul_left, mul-div_cancel_left}
use native.Mathlib.Omega.{arith}
use lib.IntN.{ℤ, pos}
use lib.ListN.{length, get_or, take, drop, length-append, length-map}
use lib.Seq.{take-suc, take-add, drop-drop, take-length}
use mir.Facts.{to_z-of_z, of_z-to_z, Fits-of_z}
use mir.Syntax.{w32}
use mir.Val.{SFits}
use Rattle.lists.specs.Grow.{tab}
use Rattle.lists.proofs.Grow.{length-grow, tab_at, tab_same, get_d_tab}
use Rattle.fields.specs.Bytes.{big, number_at, bits, signed, Bytes}
use Rattle.fields.specs.Fields.{place, places, numbers, firsts, seconds, numbers_in}
use Rattle.fields.proofs.BigEndian.{length-big, number_in, number-big, big-number, number_fits}
use Rattle.fields.proofs.Records.{length-records, number-record, records_of}

-- ---- lists that are made by index (belongs in lists)
module _ {A : Type 0} where
  -- the entries of l make l
  tab-take : (l : List A) (d : A) (n : ℕ) → n ≤ length l → tab (λ i. get_or l i d) n ≡ take n l
  tab-take l d zero h = refl
  tab-take l d (suc n) h = rw (tab_at (λ i. get_or l i d) n, tab-take l d n (omega arith), take-suc l n d)

  pub tab_list : (l : List A) (d : A) → tab (λ i. get_or l i d) (length l) ≡ l
  tab_list l d = tab-take l d (length l) (omega arith) ∙ take-length l

-- ---- places
pub length-place : (xs ys : List ℤ) (i : ℕ) → length (place xs ys i) ≡ 8
length-place xs ys i =
    simp length-append (omega (arith, length-big 4 (bits (get_or xs i (pos 0))), length-big 4 (bits (get_or ys i (pos 0)))))

pub length_places : (xs ys : List ℤ) → length (places xs ys) ≡ 8 * length xs
unfolding places
length_places xs ys = length-records (place xs ys) 8 (length-place xs ys) (length xs)

-- numbers with sign that 4 bytes hold
pub record Wide (xs : List ℤ) : Type 0 where
  pub fits : (i : ℕ) → SFits w32 (get_or xs i (pos 0))

module _ (xs ys : List ℤ) where
  counted : length (places xs ys) / 8 ≡ length xs
  counted = omega (arith, length_places xs ys)

  first_at : Wide xs → (i : ℕ) → i < length xs → signed (number_at 4 (places xs ys) (8 * i)) ≡ get_or xs i (pos 0)
  unfolding places
  first_at a i h =
      let f = Fits-of_z (a.fits i) in
      let e = number-record (place xs ys) 8 (length-place xs ys) 4 (length xs) i 0 h (omega arith) in
      let g = number_in 4 (bits (get_or xs i (pos 0))) [] (big 4 (bits (get_or ys i (pos 0)))) 0 f.fits refl in
      rw (sym (add-zero (8 * i)), e, g) (to_z-of_z (a.fits i))

  second_at : Wide ys → (i : ℕ) → i < length xs → signed (number_at 4 (places xs ys) (8 * i + 4)) ≡ get_or ys i (pos 0)
  unfolding places
  second_at a i h =
      let f = Fits-of_z (a.fits i) in
      let e = number-record (place xs ys) 8 (length-place xs ys) 4 (length xs) i 4 h (omega arith) in
      let g = number_in 4 (bits (get_or ys i (pos 0))) (big 4 (bits (get_or xs i (pos 0)))) [] 4 f.fits (length-big 4 (bits (get_or xs i (pos 0)))) in
      rw (e, sym (append-nil (big 4 (bits (get_or ys i (pos 0))))), g) (to_z-of_z (a.fits i))

  pub firsts_back : Wide xs → firsts (places xs ys) ≡ xs
  unfolding firsts
  firsts_back a = rw counted (tab_same _ _ (length xs) (first_at a) ∙ tab_list xs (pos 0))

  pub seconds_back : Wide ys → length xs ≡ length ys → seconds (places xs ys) ≡ ys
  unfolding seconds
  seconds_back a e =
      rw (counted, e) (tab_same _ _ (length ys) (λ i h. second_at a i (rw e h)) ∙ tab_list ys (pos 0))

pub length_firsts : (v : List ℕ) → length (firsts v) ≡ length v / 8
unfolding firsts
length_firsts v = length-grow _ (length v / 8)

pub length_seconds : (v : List ℕ) → length (seconds v) ≡ length v / 8
unfolding seconds
length_seconds v = length-grow _ (length v / 8)

pub first_in : (v : List ℕ) (i : ℕ) → i < length v / 8 → get_or (firsts v) i (pos 0) ≡ signed (number_at 4 v (8 * i))
unfolding firsts
first_in v i h = get_d_tab (λ i. signed (number_at 4 v (8 * i))) (length v / 8) i (pos 0) h

pub second_in : (v : List ℕ) (i : ℕ) → i < length v / 8 → get_or (seconds v) i (pos 0) ≡ signed (number_at 4 v (8 * i + 4))
unfolding seconds
second_in v i h = get_d_tab (λ i. signed (number_at 4 v (8 * i + 4))) (length v / 8) i (pos 0) h

-- a value of whole records is made of its places
pub places_back : (v : List ℕ) → Bytes v → length v % 8 ≡ 0 → places (firsts v) (seconds v) ≡ v
unfolding places firsts seconds
places_back v b e =
    let n : length (firsts v) ≡ length v / 8 = length-grow _ (length v / 8) in
    let q : 8 * (length v / 8) ≡ length v = omega arith in
    rw n (records_of (place (firsts v) (seconds v)) 8 (length v / 8) v (λ i h. one i h) ∙ rw q (take-length v))
  where
    half : (i j : ℕ) → j + 4 ≤ length v → big 4 (bits (signed (number_at 4 v j))) ≡ take 4 (drop j v)
    half i j h = rw (of_z-to_z {w = w32} (record { fits = number_fits 4 v j b })) (big-number 4 v j b h)

    one : (i : ℕ) → i < length v / 8 → place (firsts v) (seconds v) i ≡ take 8 (drop (8 * i) v)
    one i h =
        rw (first_in v i h, second_in v i h, half i (8 * i) (omega arith), half i (8 * i + 4) (omega arith), take-add 4 4 (drop (8 * i) v), drop-drop)

-- ---- numbers of w bytes
module _ (w : ℕ) where
  pub length-numbers : (ns : List ℕ) → length (numbers w ns) ≡ w * length ns
  unfolding numbers
  length-numbers ns = length-records (λ i. big w (get_or ns i 0)) w (λ i. length-big w (get_or ns i 0)) (length ns)

  pub length_mapped : {A : Type 0} (f : A → ℕ) (ns : List A) → length (numbers w (map f ns)) ≡ w * length ns
  length_mapped f ns = rw (length-numbers, length-map)

  number_at_lem : (ns : List ℕ) (i : ℕ) → i < length ns → get_or ns i 0 < 256 ^ w → number_at w (numbers w ns) (w * i) ≡ get_or ns i 0
  unfolding numbers
  number_at_lem ns i h l =
      let e = number-record (λ i. big w (get_or ns i 0)) w (λ i. length-big w (get_or ns i 0)) w (length ns) i 0 h (omega arith) in
      rw (sym (add-zero (w * i)), e) (number-big w (get_or ns i 0) l)

  pub numbers_back : (ns : List ℕ) → 0 < w → ((i : ℕ) → i < length ns → get_or ns i 0 < 256 ^ w) → numbers_in w (numbers w ns) ≡ ns
  unfolding numbers_in
  numbers_back ns some a =
      let n : length (numbers w ns) / w ≡ length ns = rw length-numbers (mul-div_cancel_left (length ns) some) in
      rw n (tab_same _ _ (length ns) (λ i h. number_at_lem ns i h (a i h)) ∙ tab_list ns 0)

  pub length_numbers_in : (v : List ℕ) → length (numbers_in w v) ≡ length v / w
  unfolding numbers_in
  length_numbers_in v = length-grow _ (length v / w)

  pub number_of : (v : List ℕ) (i : ℕ) → i < length v / w → get_or (numbers_in w v) i 0 ≡ number_at w v (w * i)
  unfolding numbers_in
  number_of v i h = get_d_tab (λ i. number_at w v (w * i)) (length v / w) i 0 h

  -- a value of whole records is made of its numbers
  pub numbers_made : (v : List ℕ) → Bytes v → w * (length v / w) ≡ length v → numbers w (numbers_in w v) ≡ v
  unfolding numbers numbers_in
  numbers_made v b e =
      let n : length (numbers_in w v) ≡ length v / w = length-grow _ (length v / w) in
      rw n (records_of (λ i. big w (get_or (numbers_in w v) i 0)) w (length v / w) v (λ i h. one i h) ∙ rw e (take-length v))
    where
      one : (i : ℕ) → i < length v / w → big w (get_or (numbers_in w v) i 0) ≡ take w (drop (w * i) v)
      one i h =
          let m : w * suc i ≤ w * (length v / w) = mul-le-mul_left w h in
          rw (number_of v i h) (big-number w v (w * i) b (omega (arith, m, mul-suc w i)))
