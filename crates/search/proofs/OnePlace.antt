-- Document 02, Q-1: the exact search over sinks on one place, all with the same delay. At every budget the tree has no wire; a finished table holds twice the delay for each join, so zeros where there is no delay.
use mathlib.Core.Path.{◌≡◌, refl, sym, ap, ◌∙◌}
use mathlib.Core.List.{List, [], ◌∷◌, Memᴰ}
use Prim.Native.Nat.{ℕ, zero, suc, ◌+◌, ◌-◌, ◌*◌, ◌/◌, ◌%◌, ◌^◌, ◌≤◌, ◌<◌, min}
use native.Mathlib.Nat.{le_refl, mul-add, mul-suc, mul-zero, sub-zero}
use native.Mathlib.Decide.{dec_lt}
use native.Mathlib.Omega.{arith}
use lib.Dec.{leb}
use lib.IntN.{ℤ}
use lib.ListN.{length, get_or}
use lib.Seq.{ext_get_or}
use lib.Count.{ones}
use lib.Pow.{pow_mono}
use borrow.Author.Tests.{eq-eqb}
use Rattle.lists.specs.Grow.{tab}
use Rattle.lists.proofs.Grow.{get_d_tab, length-grow}
use Rattle.zero_skew.specs.Plane.{Sinks}
use Rattle.zero_skew.proofs.OnePlace.{gathered_diameter}
use Rattle.plane.specs.Sinks.{sinks_at, Ranged}
use Rattle.orders.specs.Nodes.{total}
use Rattle.orders.proofs.OnePlace.{one_place_total}
use Rattle.subsets.specs.Best.{best, least_of, step_count}
use Rattle.subsets.specs.Entries.{entry_after}
use Rattle.search.specs.Searching.{found, joins_found, table_of}
use Rattle.subsets.specs.Subsets.{diam, lowest, sinks_in_subset, splits}
use Rattle.subsets.proofs.Digits.{Sub, left_part, ones_rest, self_lt}
use Rattle.subsets.proofs.Filling.{after_length}
use Rattle.search.proofs.Finding.{found_ordered}
use Rattle.subsets.proofs.Finished.{finished}
use Rattle.subsets.proofs.KeptParts.{ones_pos}
use Rattle.subsets.proofs.Lowest.{lowest_lt}
use Rattle.subsets.proofs.Members.{in_sinks, sinks_in}
use Rattle.search.proofs.Promises.{table_is}
use Rattle.subsets.proofs.Recursion.{best_single, best_split, holds_best}
use Rattle.subsets.proofs.Scan.{Parts, parts_splits}
use Rattle.subsets.proofs.Small.{diam_small}
use Rattle.subsets.proofs.Splits.{splits_count}

-- ---- a subset of n sinks that is not empty has a sink: its lowest

in_some : (i : ℕ) (l : List ℕ) → Memᴰ i l → 0 < length l
in_some i [] h = elim h [ ]
in_some i (a ∷ l) h = omega arith

sinks_some : (n m : ℕ) → 0 < m → m < 2 ^ n → 0 < length (sinks_in_subset n m)
sinks_some n m pos few =
    let odd : m / 2 ^ lowest m % 2 ≡ 1 = rw sub-zero at (left_part m m 0 pos (self_lt m) refl).1 in
    in_some (lowest m) (sinks_in_subset n m) (in_sinks n m (lowest m) (lowest_lt n m pos few) (eq-eqb (m / 2 ^ lowest m % 2) 1 odd))

-- ---- where all subsets have the diameter c, best is c for each join

-- where all parts of s come to the same, so does the least
least_same : (f : ℕ → ℕ) (v s : ℕ) → ((a : ℕ) → 0 < a → a < s → Sub a s → f a ≡ v) → (l : List ℕ) → 0 < length l → Parts s l → least_of f l ≡ v
unfolding least_of
least_same f v s same [] some p = absurd (omega arith)
least_same f v s same (a ∷ []) some p = same a p.0 p.1 p.2
least_same f v s same (a ∷ (b ∷ l)) some p = omega (arith, same a p.0 p.1 p.2, least_same f v s same (b ∷ l) (omega arith) p.3)

-- the joins of two parts
joins_apart : (c x y : ℕ) → 0 < x → 0 < y → c * (x - 1) + c * (y - 1) ≡ c * (x + y - 2)
joins_apart c x y h k =
    let e : x - 1 + (y - 1) ≡ x + y - 2 = omega arith in
    sym (mul-add c (x - 1) (y - 1)) ∙ ap (λ (z : ℕ). c * z) e

module _ (δ : ℕ → ℕ) (b c : ℕ) (even : (m : ℕ) → 0 < m → m < b → δ m ≡ c) where
  best_to : (f m : ℕ) → m ≤ f → 0 < m → m < b → best δ m ≡ c * (ones m - 1)
  best_to zero m l h k = absurd (omega arith)
  best_to (suc f) m l h k = go (λ x. best_to f x) (dec_lt (ones m) 2)
    where
      go : ((x : ℕ) → x ≤ f → 0 < x → x < b → best δ x ≡ c * (ones x - 1)) → Dec (ones m < 2) → best δ m ≡ c * (ones m - 1)
      go ih (yes o) =
          let e : ones m - 1 ≡ 0 = omega arith in
          best_single δ m o ∙ sym (ap (λ (x : ℕ). c * x) e ∙ mul-zero c)
      go ih (no o) =
          let two : 2 ≤ ones m = omega arith in
          let some : 0 < length (splits m) = omega (arith, splits_count m h, pow_mono {i = 2} {j = ones m} two) in
          let parts : least_of (λ a. best δ a + best δ (m - a)) (splits m) ≡ c * (ones m - 2) =
          least_same (λ a. best δ a + best δ (m - a)) (c * (ones m - 2)) m
          (λ a p q u. omega (
            arith,
            ih a (omega arith) p (omega arith),
            ih (m - a) (omega arith) (omega arith) (omega arith),
            joins_apart c (ones a) (ones (m - a)) (ones_pos a p) (ones_pos (m - a) (omega arith)),
            ap (λ (x : ℕ). c * (x - 2)) (ones_rest m a u),
          ))
          (splits m) some (parts_splits m h) in
          let e : suc (ones m - 2) ≡ ones m - 1 = omega arith in
          omega (arith, best_split δ m h two, even m h k, parts, mul-suc c (ones m - 2), ap (λ (x : ℕ). c * x) e)

  best_same : (m : ℕ) → 0 < m → m < b → best δ m ≡ c * (ones m - 1)
  best_same m h k = best_to m m (le_refl m) h k

module _ (xs ys : List ℤ) (delays : List ℕ) (ranged : Ranged xs ys delays) (some : 0 < length xs) (few : length xs ≤ 12)
    (same : (i j : ℕ) → i < length xs → j < length xs → (sinks_at xs ys delays).at i ≡ (sinks_at xs ys delays).at j)
    (w : ℕ) (even : (i : ℕ) → i < length xs → get_or delays i 0 ≡ w) where
  abbrev here : Sinks
  here = sinks_at xs ys delays

  -- at every budget
  pub one_place_found : (b : ℕ) → found here b ≡ record { total = 0; steps = min b (step_count (length xs)); proven = leb (step_count (length xs)) b }
  unfolding found
  one_place_found b =
      let t : total here (joins_found here b) ≡ 0 = one_place_total here (joins_found here b) (found_ordered xs ys delays b ranged some few) w same even in
      ap (λ (w : ℕ). record { total = w; steps = min b (step_count (length xs)); proven = leb (step_count (length xs)) b }) t

  -- every subset that is not empty has the diameter of a single sink
  diam_even : (m : ℕ) → 0 < m → m < 2 ^ length xs → diam here m ≡ 2 * w
  unfolding diam
  diam_even m h k =
      gathered_diameter here w (sinks_in_subset (length xs) m) (sinks_some (length xs) m h k)
      (record {
        same = λ i j mi mj. same i j (sinks_in (length xs) m i mi).0 (sinks_in (length xs) m j mj).0;
        even = λ i mi. even i (sinks_in (length xs) m i mi).0;
      })

  module _ (b : ℕ) (enough : step_count (length xs) ≤ b) where
    -- the delay twice, for each join
    abbrev joined : ℕ → ℕ
    joined m = 2 * w * (ones m - 1)

    entry_is : (m : ℕ) → m < 2 ^ length xs → get_or (table_of here b) m 0 ≡ joined m
    unfolding entry_after ones
    entry_is zero h =
        ap (λ (t : List ℕ). get_or t 0 0) (table_is xs ys delays ranged some few b)
        ∙ get_d_tab (entry_after (diam here) b) (2 ^ length xs) 0 0 h
        ∙ sym (mul-zero (2 * w))
    entry_is (suc m) h =
        holds_best (diam here) (2 ^ length xs) (pow_mono few) (table_of here b) (finished (diam here) (length xs) b enough) 6000000 (diam_small xs ys delays ranged) (omega arith) (suc m) (omega arith) h
        ∙ best_same (diam here) (2 ^ length xs) (2 * w) diam_even (suc m) (omega arith) h

    -- from F(n) on
    pub one_place_table : table_of here b ≡ tab (λ m. 2 * w * (ones m - 1)) (2 ^ length xs)
    one_place_table =
        let size : length (table_of here b) ≡ 2 ^ length xs = after_length (diam here) (length xs) b in
        ext_get_or 0 (table_of here b) (tab joined (2 ^ length xs))
        (size ∙ sym (length-grow (λ l. joined (length l)) (2 ^ length xs)))
        (λ m h. let l : m < 2 ^ length xs = omega (arith, size) in entry_is m l ∙ sym (get_d_tab joined (2 ^ length xs) m 0 l))
