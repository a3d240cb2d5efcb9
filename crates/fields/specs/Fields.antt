-- Document 01, "House files": the fields, and what stands in them.
use Rattle.std.specs.Prelude.{List, [], ◌∷◌, ◌++◌, ℕ, zero, suc, ◌+◌, ◌*◌, ◌/◌, ℤ, pos, length, get_or}
use Rattle.lists.specs.Grow.{tab}
use Rattle.fields.specs.Bytes.{big, number_at, bits, signed}

-- "Fields are a one-byte tag, a two-byte length, then the value"
unfoldable pub field : ℕ → List ℕ → List ℕ
field tag value = tag ∷ (big 2 (length value) ++ value)

-- fields "in this order, once each", from a tag on
abbrev pub fields : ℕ → List (List ℕ) → List ℕ
fields tag [] = []
fields tag (value ∷ rest) = field tag value ++ fields (suc tag) rest

-- n records, one after another
unfoldable pub records : (ℕ → List ℕ) → ℕ → List ℕ
records r zero = []
records r (suc n) = records r n ++ r n

-- "Tag 1: version, one byte, 1."
abbrev pub version : List ℕ
version = 1 ∷ []

-- "Tag 2: x and y, 4 bytes each, per sink." "Tag 4: U and V, 4 bytes each, per node."
abbrev pub place : List ℤ → List ℤ → ℕ → List ℕ
place xs ys i = big 4 (bits (get_or xs i (pos 0))) ++ big 4 (bits (get_or ys i (pos 0)))

unfoldable pub places : List ℤ → List ℤ → List ℕ
places xs ys = records (place xs ys) (length xs)

-- "Tag 3: pairs, 2 bytes per node number." "Tag 5: wire to parent, 4 bytes per node"
unfoldable pub numbers : ℕ → List ℕ → List ℕ
numbers w ns = records (λ i. big w (get_or ns i 0)) (length ns)

-- what stands in such values: the first and the second coordinate of each place, and the numbers of w bytes
unfoldable pub firsts : List ℕ → List ℤ
firsts v = tab (λ i. signed (number_at 4 v (8 * i))) (length v / 8)

unfoldable pub seconds : List ℕ → List ℤ
seconds v = tab (λ i. signed (number_at 4 v (8 * i + 4))) (length v / 8)

unfoldable pub numbers_in : ℕ → List ℕ → List ℕ
numbers_in w v = tab (λ i. number_at w v (w * i)) (length v / w)
