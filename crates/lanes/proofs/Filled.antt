-- How much the entries of subsets can come to, and leasts of lanes and of parts.
use mathlib.Core.Path.{◌≡◌, refl, sym, ap, subst, ◌∙◌}
use mathlib.Core.Logic.{◌≢◌}
use mathlib.Core.List.{List, map, foldl, foldl-append}
use Prim.Native.Nat.{ℕ, zero, suc, ◌+◌, ◌-◌, ◌*◌, ◌^◌, ◌≤◌, ◌<◌, min}
use native.Mathlib.Decide.{dec_lt, ℕ_discrete}
use native.Mathlib.Omega.{arith}
use lib.Bits.{bit_and}
use lib.Count.{ones, ones-le}
use lib.ListN.{length, get_or, set}
use lib.Seq.{get_or-set_other, get_or-set_same}
use Rattle.lanes.specs.Blocks.{Within, least_with, parts_to, split_off_lane}
use Rattle.subsets.specs.Subsets.{rising, splits}
use Rattle.lanes.specs.Sums.{sums}
use Rattle.subsets.specs.Table.{better_at, blank_of, pair_up, step_of, steps_of}
use Rattle.subsets.proofs.Bellman.{large, least_le, small_blank}
use Rattle.lanes.proofs.Dealing.{entry_bound, steps_value}
use Rattle.lanes.proofs.Parting.{parts_next}
use Rattle.subsets.proofs.Digits.{Sub}
use Rattle.subsets.proofs.Runs.{fold_length, pairs_other, rising_cons}
use Rattle.subsets.proofs.Scan.{fold_set, parts_splits}

-- ---- what an entry can come to

pub within_small : (m : ℕ) (t : List ℕ) (i : ℕ) → Within m t → i < m → i < 2 ^ 12 → get_or t i 0 ≤ 72000000
within_small m t i w h k = omega (arith, w i h, ones-le 12 i k)

-- the diameter and the least sum of s: within bounds, and its entry
pub value_small : (d : ℕ) (t : List ℕ) (s : ℕ) → 0 < s → d ≤ 6000000 → Within s t → 2 ≤ ones s → d + least_with (sums t s) 4294967295 (splits s) ≤ 6000000 * (ones s - 1)
value_small d t s pos short w o = omega (arith, entry_bound t s pos o w)

pub value_is : (d : ℕ) (t : List ℕ) (s c : ℕ) → 0 < s → s < 2 ^ 12 → d ≤ 6000000 → Within s t → 2 ≤ ones s → c ≡ least_with (sums t s) 4294967295 (splits s)
    → d + c ≡ foldl (better_at d t s) 4294967295 (splits s)
value_is d t s c pos few short w o e = steps_value d t s c e (omega (arith, value_small d t s pos short w o, ones-le 12 s few))

module _ (δ : ℕ → ℕ) where
  module _ (t : List ℕ) (s : ℕ) (pos : 0 < s) (few : s < 2 ^ 12) (short : δ s ≤ 6000000) (w : Within s t) (is-blank : get_or t s 0 ≡ blank_of s) where
    entry_small : Dec (ones s < 2) → foldl (better_at (δ s) t s) (get_or t s 0) (splits s) ≤ 6000000 * (ones s - 1)
    entry_small (yes o) = omega (arith, least_le (δ s) t s (get_or t s 0) (splits s), is-blank, small_blank (ones s) o)
    entry_small (no o) =
        let o2 : 2 ≤ ones s = omega arith in
        let e : foldl (better_at (δ s) t s) (get_or t s 0) (splits s) ≡ foldl (better_at (δ s) t s) 4294967295 (splits s) = ap (λ (v : ℕ). foldl (better_at (δ s) t s) v (splits s)) (is-blank ∙ large (ones s) o2) in
        omega (arith, e, value_is (δ s) t s (least_with (sums t s) 4294967295 (splits s)) pos few short w o2 refl, value_small (δ s) t s pos short w o2)

    -- once its steps are taken it is within bounds as well
    pub within_more : (t2 : List ℕ) → s < length t → t2 ≡ foldl (step_of δ) t (map (pair_up s) (splits s)) → Within (s + 1) t2
    within_more t2 room e i h = go (ℕ_discrete i s)
      where
        v : ℕ
        v = foldl (better_at (δ s) t s) (get_or t s 0) (splits s)

        e2 : t2 ≡ set t s v
        e2 = e ∙ fold_set δ t s (splits s) room (parts_splits s pos)

        go : Dec (i ≡ s) → get_or t2 i 0 ≤ 6000000 * (ones i - 1)
        go (yes q) =
            subst (λ (x : ℕ). get_or t2 x 0 ≤ 6000000 * (ones x - 1)) (sym q)
            (omega (arith, ap (λ (u : List ℕ). get_or u s 0) e2, get_or-set_same t s v 0 room, entry_small (dec_lt (ones s) 2)))
        go (no q) =
            let n : i ≢ s = q in
            omega (arith, ap (λ (u : List ℕ). get_or u i 0) e2, get_or-set_other t s i v 0 n, w i (omega arith))

  -- and so for a run of blank entries
  pub within_run : (k i : ℕ) (t : List ℕ) → 0 < i → i + k ≤ 2 ^ 12 → i + k ≤ length t → ((m : ℕ) → i ≤ m → m < i + k → δ m ≤ 6000000) → Within i t
      → ((m : ℕ) → i ≤ m → m < i + k → get_or t m 0 ≡ blank_of m) → Within (i + k) (foldl (step_of δ) t (steps_of (rising k i)))
  unfolding steps_of rising
  within_run zero i t pos few room short w is-blank = λ m h. w m (omega arith)
  within_run (suc k) i t pos few room short w is-blank =
      let t2 : List ℕ = foldl (step_of δ) t (map (pair_up i) (splits i)) in
      let w2 : Within (suc i) t2 = λ m h. within_more t i pos (omega arith) (short i (omega arith) (omega arith)) w (is-blank i (omega arith) (omega arith)) t2 (omega arith) refl m (omega arith) in
      let r : Within (suc i + k) (foldl (step_of δ) t2 (steps_of (rising k (suc i)))) =
      within_run k (suc i) t2 (omega arith) (omega arith) (omega (arith, fold_length δ t (map (pair_up i) (splits i)))) (λ m a b. short m (omega arith) (omega arith)) w2
      (λ m a b. pairs_other δ i t (splits i) m (omega arith) ∙ is-blank m (omega arith) (omega arith)) in
      λ m h.
      subst (λ (u : List ℕ). get_or u m 0 ≤ 6000000 * (ones m - 1)) (sym (foldl-append (step_of δ) t (map (pair_up i) (splits i)) (steps_of (rising k (suc i))))) (r m (omega arith))

-- ---- the least of lanes, and of the parts of low sinks

pub lane_turn : (ss : List ℕ) (end k v w r : ℕ) → k < end → w ≡ min v (get_or ss k 0) → least_with (λ (j : ℕ). get_or ss j 0) v (rising (end - k) k) ≡ r
    → least_with (λ (j : ℕ). get_or ss j 0) w (rising (end - (k + 1)) (k + 1)) ≡ r
lane_turn ss end k v w r h e i =
    ap (λ (x : ℕ). least_with (λ (j : ℕ). get_or ss j 0) x (rising (end - (k + 1)) (k + 1))) e ∙ ap (least_with (λ (j : ℕ). get_or ss j 0) v) (sym (rising_cons end k h)) ∙ i

pub lane_end : (ss : List ℕ) (end k v r : ℕ) → end ≤ k → least_with (λ (j : ℕ). get_or ss j 0) v (rising (end - k) k) ≡ r → v ≡ r
unfolding rising
lane_end ss end k v r h i = ap (λ (m : ℕ). least_with (λ (j : ℕ). get_or ss j 0) v (rising m k)) (let e : 0 ≡ end - k = omega arith in e) ∙ i

pub low_turn : (t : List ℕ) (s low part v w r : ℕ) → 0 < part → Sub part low → w ≡ min v (split_off_lane t s part) → least_with (split_off_lane t s) v (parts_to low part) ≡ r
    → least_with (split_off_lane t s) w (parts_to low (bit_and (part - 1) low)) ≡ r
low_turn t s low part v w r h p e i =
    ap (λ (x : ℕ). least_with (split_off_lane t s) x (parts_to low (bit_and (part - 1) low))) e ∙ ap (least_with (split_off_lane t s) v) (sym (parts_next low part h p)) ∙ i

pub low_end : (t : List ℕ) (s low part v r : ℕ) → part ≡ 0 → least_with (split_off_lane t s) v (parts_to low part) ≡ r → v ≡ r
unfolding parts_to
low_end t s low part v r e i = ap (λ (x : ℕ). least_with (split_off_lane t s) v (parts_to low x)) (sym e) ∙ i
