-- The work table after any number of steps, entry by entry, is what document 01 says.
use mathlib.Core.Path.{◌≡◌, refl, sym, ap, ap₂, ◌∙◌}
use mathlib.Core.Bool.{Bool, cond}
use mathlib.Core.List.{List, [], ◌∷◌, foldl}
use Prim.Native.Nat.{ℕ, zero, suc, ◌+◌, ◌-◌, ◌*◌, ◌^◌, ◌≤◌, ◌<◌, min}
use native.Mathlib.Nat.{le_trans, mul-le-mul_right}
use native.Mathlib.Decide.{dec_lt}
use native.Mathlib.Omega.{arith}
use lib.Dec.{ltb}
use lib.ListN.{length, get_or, take}
use lib.Seq.{get_or-set_same, ext_get_or, take_all}
use lib.Pow.{pow_mono, pow_pos}
use lib.Count.{ones, ones-le}
use borrow.Author.Tests.{lt-ltb, le-ltb}
use Rattle.lists.specs.Grow.{tab}
use Rattle.lists.proofs.Grow.{length-grow, get_d_tab}
use Rattle.subsets.specs.Best.{best, least_of}
use Rattle.subsets.specs.Entries.{entry_after, examined, held_by}
use Rattle.subsets.specs.Subsets.{rising, splits}
use Rattle.subsets.specs.Table.{better_at, blank_of, steps_of, table_after}
use Rattle.subsets.proofs.Bellman.{best_bound, large, least_le, small_blank}
use Rattle.subsets.proofs.Digits.{Sub, ones_rest}
use Rattle.subsets.proofs.Filling.{after_length}
use Rattle.subsets.proofs.Finished.{Finished, blank_get, done_length, done_to, finished_to}
use Rattle.subsets.proofs.Partway.{done_blank, empty_stands, entry_cut}
use Rattle.subsets.proofs.Recursion.{best_single, best_split, fold_least, holds_best, least_ext}
use Rattle.subsets.proofs.Scan.{Parts, fold_set, parts_splits, parts_take}
use Rattle.subsets.proofs.Splits.{splits_count}

least_first : (f : ℕ → ℕ) (a : ℕ) (l : List ℕ) → least_of f (a ∷ l) ≤ f a
unfolding least_of
least_first f a [] = omega arith
least_first f a (b ∷ l) = omega arith

module _ (δ : ℕ → ℕ) (n k : ℕ) (few : n ≤ 12) (D : ℕ) (far : (s : ℕ) → δ s ≤ D) (near : D ≤ 2 ^ 28) where
  module _ (s : ℕ) (pos : 0 < s) (low : s < 2 ^ n) where
    T : List ℕ
    T = done_to δ n (s - 1)

    s12 : s < 2 ^ 12
    s12 = le_trans low (pow_mono few)

    done : Finished δ s T
    unfolding T
    done =
        let e : suc (s - 1) ≡ s = omega arith in
        rw e at (finished_to δ n (s - 1) (omega arith))

    parts : Parts s (examined k s)
    unfolding examined
    parts = parts_take s (k - length (steps_of (rising (s - 1) 1))) (splits s) (parts_splits s pos)

    scanned : get_or (table_after δ n k) s 0 ≡ foldl (better_at (δ s) T s) (blank_of s) (examined k s)
    unfolding T
    scanned =
        let r : s < length (done_to δ n (s - 1)) = omega (arith, done_length δ n (s - 1)) in
        entry_cut δ n k s pos low
        ∙ ap (λ (t : List ℕ). get_or t s 0) (fold_set δ (done_to δ n (s - 1)) s (examined k s) r parts)
        ∙ get_or-set_same (done_to δ n (s - 1)) s (foldl (better_at (δ s) (done_to δ n (s - 1)) s) (get_or (done_to δ n (s - 1)) s 0) (examined k s)) 0 r
        ∙ ap (λ (v : ℕ). foldl (better_at (δ s) (done_to δ n (s - 1)) s) v (examined k s)) (done_blank δ n k s pos low ∙ blank_get n s low)

    best_at : (x : ℕ) → 0 < x → x < s → get_or T x 0 ≡ best δ x
    best_at x h l = holds_best δ s (let e : s ≤ 2 ^ 12 = omega (arith, s12) in e) T done D far near x h l

    -- one part's sum is small
    sum_small : (a : ℕ) → 0 < a → a < s → Sub a s → δ s + (get_or T a 0 + get_or T (s - a) 0) < 4294967295
    sum_small a h l u =
        omega (
          arith,
          near,
          far s,
          best_bound δ s T done D far a h l,
          best_bound δ s T done D far (s - a) (omega arith) (omega arith),
          ap (λ (x : ℕ). x * D) (ones_rest s a u),
          mul-le-mul_right D (ones-le 12 s s12),
        )

    held : (l : List ℕ) → Parts s l → 2 ≤ ones s → foldl (better_at (δ s) T s) (blank_of s) l ≡ held_by δ s l
    held [] p o = large (ones s) o
    held (a ∷ l) p o =
        let m : least_of (λ x. get_or T x 0 + get_or T (s - x) 0) (a ∷ l) ≤ get_or T a 0 + get_or T (s - a) 0 = least_first (λ x. get_or T x 0 + get_or T (s - x) 0) a l in
        let e : min (blank_of s) (δ s + least_of (λ x. get_or T x 0 + get_or T (s - x) 0) (a ∷ l)) ≡ δ s + least_of (λ x. get_or T x 0 + get_or T (s - x) 0) (a ∷ l) =
        omega (arith, m, sum_small a p.0 p.1 p.2, large (ones s) o) in
        fold_least (δ s) T s (blank_of s) a l ∙ e
        ∙ ap (λ (x : ℕ). δ s + x) (least_ext (λ x. get_or T x 0 + get_or T (s - x) 0) (λ x. best δ x + best δ (s - x)) s (a ∷ l) p
        (λ x h g. ap₂ (λ (y z : ℕ). y + z) (best_at x h g) (best_at (s - x) (omega arith) (omega arith))))

    entry_some : Dec (ones s < 2) → get_or (table_after δ n k) s 0 ≡ entry_after δ k s
    unfolding entry_after
    entry_some (yes o) =
        let z : foldl (better_at (δ s) T s) (blank_of s) (examined k s) ≤ blank_of s = least_le (δ s) T s (blank_of s) (examined k s) in
        omega (arith, scanned, z, small_blank (ones s) o) ∙ sym (ap (λ (b : Bool). cond b 0 (held_by δ s (examined k s))) (lt-ltb (ones s) 2 o))
    entry_some (no o) =
        let o2 : 2 ≤ ones s = omega arith in
        scanned ∙ held (examined k s) parts o2 ∙ sym (ap (λ (b : Bool). cond b 0 (held_by δ s (examined k s))) (le-ltb (ones s) 2 o2))

  entry_none : get_or (table_after δ n k) 0 0 ≡ entry_after δ k 0
  unfolding entry_after ones
  entry_none = empty_stands δ n k ∙ blank_get n 0 (pow_pos n)

  pub entry_is : (s : ℕ) → s < 2 ^ n → get_or (table_after δ n k) s 0 ≡ entry_after δ k s
  entry_is zero l = entry_none
  entry_is (suc s) l = entry_some (suc s) (omega arith) l (dec_lt (ones (suc s)) 2)

  -- THE TABLE, at every budget
  pub table_entries : table_after δ n k ≡ tab (entry_after δ k) (2 ^ n)
  table_entries =
      ext_get_or 0 (table_after δ n k) (tab (entry_after δ k) (2 ^ n)) (after_length δ n k ∙ sym (length-grow (λ l. entry_after δ k (length l)) (2 ^ n)))
      (λ i h. let l : i < 2 ^ n = omega (arith, after_length δ n k) in
      entry_is i l ∙ sym (get_d_tab (entry_after δ k) (2 ^ n) i 0 l))

-- "finished subsets hold best": where every split of m is examined, that is what its entry is
pub finished_best : (δ : ℕ → ℕ) (k m : ℕ) → 0 < m → length (steps_of (rising (m - 1) 1)) + length (splits m) ≤ k → entry_after δ k m ≡ best δ m
unfolding entry_after examined
finished_best δ k m h l = go (dec_lt (ones m) 2)
  where
    whole : take (k - length (steps_of (rising (m - 1) 1))) (splits m) ≡ splits m
    whole = take_all (k - length (steps_of (rising (m - 1) 1))) (splits m) (omega arith)

    some : (r : List ℕ) → splits m ≡ r → 2 ≤ ones m → held_by δ m r ≡ δ m + least_of (λ a. best δ a + best δ (m - a)) r
    some [] e o = absurd (omega (arith, splits_count m h, ap length e, pow_mono {i = 2} {j = ones m} o))
    some (a ∷ r) e o = refl

    go : Dec (ones m < 2) → cond (ltb (ones m) 2) 0 (held_by δ m (take (k - length (steps_of (rising (m - 1) 1))) (splits m))) ≡ best δ m
    go (yes o) = ap (λ (b : Bool). cond b 0 (held_by δ m (take (k - length (steps_of (rising (m - 1) 1))) (splits m)))) (lt-ltb (ones m) 2 o) ∙ sym (best_single δ m o)
    go (no o) =
        let o2 : 2 ≤ ones m = omega arith in
        ap (λ (b : Bool). cond b 0 (held_by δ m (take (k - length (steps_of (rising (m - 1) 1))) (splits m)))) (le-ltb (ones m) 2 o2)
        ∙ ap (held_by δ m) whole
        ∙ some (splits m) refl o2
        ∙ sym (best_split δ m h o2)
