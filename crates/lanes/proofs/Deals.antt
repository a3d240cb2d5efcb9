-- The rows of a high set, put in together.
use borrow.Rule.Slice.PartMut.{put_mid}
use mathlib.Core.Path.{◌≡◌, sym, ap, subst, ◌∙◌}
use mathlib.Core.List.{List, [], ◌∷◌, ◌++◌, map}
use Prim.Native.Nat.{ℕ, zero, suc, ◌+◌, ◌-◌, ◌*◌, ◌/◌, ◌≤◌, ◌<◌}
use native.Mathlib.Decide.{dec_lt}
use native.Mathlib.Omega.{arith}
use lib.ListN.{length, get_or, take, drop, get_or-append}
use lib.Seq.{length-take-le, get_or-append-add, get_or-drop, get_or-take}
use Rattle.std.proofs.lemmas.List.{get_or-map}
use Rattle.std.specs.Simd.{first_chunks}
use Rattle.lanes.specs.Blocks.{Deals, Modest, in_rows, to_first, to_second}
use Rattle.lanes.proofs.Opening.{low_in_rows}

-- entry j of chunk i
chunk_at : (k i j : ℕ) (xs : List ℕ) → i < k → j < 8 → get_or (get_or (first_chunks 8 k xs) i []) j 0 ≡ get_or xs (8 * i + j) 0
chunk_at zero i j xs h l = absurd (omega arith)
chunk_at (suc k) zero j xs h l = get_or-take 8 xs j 0 l ∙ ap (λ (m : ℕ). get_or xs m 0) (let e : j ≡ 8 * 0 + j = omega arith in e)
chunk_at (suc k) (suc i) j xs h l =
    let e : 8 + (8 * i + j) ≡ 8 * suc i + j = omega arith in
    chunk_at k i j (drop 8 xs) (omega arith) l ∙ get_or-drop 8 xs (8 * i + j) 0 ∙ ap (λ (m : ℕ). get_or xs m 0) e

-- what holds of each below h, and of h
or_here : (P : ℕ → Type 0) (g h : ℕ) → g < h + 1 → (g < h → P g) → P h → P g
or_here P g h l f e = go (dec_lt g h)
  where
    go : Dec (g < h) → P g
    go (yes k) = f k
    go (no k) = subst P (let q : h ≡ g = omega arith in q) e

-- a list s in the place of as many from a on
module _ (a k : ℕ) (xs s : List ℕ) (room : a + k ≤ length xs) (many : length s ≡ k) where
  before : length (take a xs) ≡ a
  before = length-take-le a xs (omega arith)

  put_below : (i : ℕ) → i < a → get_or (put_mid a k xs s) i 0 ≡ get_or xs i 0
  put_below i h = get_or-append (take a xs) (s ++ drop k (drop a xs)) 0 i (omega (arith, before)) ∙ get_or-take a xs i 0 h

  put_at : (j : ℕ) → j < k → get_or (put_mid a k xs s) (a + j) 0 ≡ get_or s j 0
  put_at j h =
      ap (λ (n : ℕ). get_or (put_mid a k xs s) (n + j) 0) (sym before)
      ∙ get_or-append-add (take a xs) (s ++ drop k (drop a xs)) j 0
      ∙ get_or-append s (drop k (drop a xs)) 0 j (omega (arith, many))

  put_above : (j : ℕ) → get_or (put_mid a k xs s) (a + (k + j)) 0 ≡ get_or xs (a + (k + j)) 0
  put_above j =
      ap (λ (n : ℕ). get_or (put_mid a k xs s) (n + (k + j)) 0) (sym before)
      ∙ get_or-append-add (take a xs) (s ++ drop k (drop a xs)) (k + j) 0
      ∙ ap (λ (n : ℕ). get_or (s ++ drop k (drop a xs)) (n + j) 0) (sym many)
      ∙ get_or-append-add s (drop k (drop a xs)) j 0
      ∙ get_or-drop k (drop a xs) j 0
      ∙ get_or-drop a xs (k + j) 0

  put_modest : Modest xs → ((j : ℕ) → j < k → get_or s j 0 < 2147483648) → Modest (put_mid a k xs s)
  put_modest m f i = go (dec_lt i a) (dec_lt i (a + k))
    where
      go : Dec (i < a) → Dec (i < a + k) → get_or (put_mid a k xs s) i 0 < 2147483648
      go (yes h) r = subst (λ (x : ℕ). x < 2147483648) (sym (put_below i h)) (m i)
      go (no h) (yes l) =
          let e : a + (i - a) ≡ i = omega arith in
          subst (λ (x : ℕ). get_or (put_mid a k xs s) x 0 < 2147483648) e (subst (λ (x : ℕ). x < 2147483648) (sym (put_at (i - a) (omega arith))) (f (i - a) (omega arith)))
      go (no h) (no l) =
          let e : a + (k + (i - a - k)) ≡ i = omega arith in
          subst (λ (x : ℕ). get_or (put_mid a k xs s) x 0 < 2147483648) e (subst (λ (x : ℕ). x < 2147483648) (sym (put_above (i - a - k))) (m (a + (k + (i - a - k)))))

-- the rows s of h, from its entries in t
module _ (t rows s : List ℕ) (h k : ℕ) (size : k ≡ 56) (room : 56 * h + 56 ≤ length rows) (many : length s ≡ 56) (entry : (j : ℕ) → j < 56 → get_or s j 0 ≡ get_or t (8 * h + get_or in_rows j 0) 0) where
  abbrev new : List ℕ
  new = put_mid (56 * h) k rows s

  fits : 56 * h + k ≤ length rows
  fits = omega arith

  full : length s ≡ k
  full = omega arith

  here_first : (j : ℕ) → j < 27 → get_or new (56 * h + j) 0 ≡ get_or t (8 * h + get_or to_first j 0) 0
  here_first j l =
      let b : j < 28 = omega arith in
      put_at (56 * h) k rows s fits full j (omega arith)
      ∙ entry j (omega arith)
      ∙ ap (λ (x : ℕ). get_or t (8 * h + x) 0) (get_or-append (to_first ++ 0 ∷ []) (to_second ++ 0 ∷ []) 0 j b ∙ get_or-append to_first (0 ∷ []) 0 j l)

  here_second : (j : ℕ) → j < 27 → get_or new (56 * h + 28 + j) 0 ≡ get_or t (8 * h + get_or to_second j 0) 0
  here_second j l =
      ap (λ (x : ℕ). get_or new x 0) (let e : 56 * h + 28 + j ≡ 56 * h + (28 + j) = omega arith in e)
      ∙ put_at (56 * h) k rows s fits full (28 + j) (omega arith)
      ∙ entry (28 + j) (omega arith)
      ∙ ap (λ (x : ℕ). get_or t (8 * h + x) 0) (get_or-append-add (to_first ++ 0 ∷ []) (to_second ++ 0 ∷ []) j 0 ∙ get_or-append to_second (0 ∷ []) 0 j l)

  rows_dealt : Deals t h rows new
  rows_dealt = record {
    here = λ d. record {
      first = λ g j p l m. or_here (λ (x : ℕ). get_or new (56 * x + j) 0 ≡ get_or t (8 * x + get_or to_first j 0) 0) g h l
          (λ q. put_below (56 * h) k rows s fits full (56 * g + j) (omega arith) ∙ d.first g j p q m) (here_first j m);
      second = λ g j p l m. or_here (λ (x : ℕ). get_or new (56 * x + 28 + j) 0 ≡ get_or t (8 * x + get_or to_second j 0) 0) g h l
          (λ q. put_below (56 * h) k rows s fits full (56 * g + 28 + j) (omega arith) ∙ d.second g j p q m) (here_second j m);
    };
    modest = λ a b. put_modest (56 * h) k rows s fits full a (λ j l. subst (λ (x : ℕ). x < 2147483648) (sym (entry j (omega arith))) (b (get_or in_rows j 0) (low_in_rows j)));
  }

pub deals : {t rows s made : List ℕ} {ps : List (List ℕ)} (h : ℕ) → ps ≡ first_chunks 8 (length t / 8) t → 8 * h + 8 ≤ length t → 56 * h + 56 ≤ length rows
    → made ≡ map (λ (l : ℕ). get_or (get_or ps h []) l 0) in_rows → s ≡ made → Deals t h rows (put_mid (56 * h) (56 * h + 56 - 56 * h) rows s)
deals {t} {rows} {s} {made} {ps} h ep low room em es =
    let e : s ≡ map (λ (l : ℕ). get_or (get_or ps h []) l 0) in_rows = es ∙ em in
    rows_dealt t rows s h (56 * h + 56 - 56 * h) (omega arith) room (ap length e)
    (λ j l.
    ap (λ (x : List ℕ). get_or x j 0) e
    ∙ get_or-map (λ (l : ℕ). get_or (get_or ps h []) l 0) in_rows j 0 0 l
    ∙ ap (λ (x : List (List ℕ)). get_or (get_or x h []) (get_or in_rows j 0) 0) ep
    ∙ chunk_at (length t / 8) h (get_or in_rows j 0) t (omega arith) (low_in_rows j))
