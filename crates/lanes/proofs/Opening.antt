-- The subsets of a block, one after the other: what they are filled in from, and what they leave.
use mathlib.Core.Path.{◌≡◌, refl, sym, ap, ap₂, ◌∙◌}
use mathlib.Core.Logic.{◌≢◌}
use mathlib.Core.Bool.{Bool, true, ◌&&◌}
use mathlib.Core.List.{List, [], ◌∷◌, map, foldl}
use Prim.Native.Nat.{ℕ, zero, suc, ◌+◌, ◌-◌, ◌*◌, ◌^◌, ◌≤◌, ◌<◌}
use native.Mathlib.Omega.{arith}
use lib.Count.{ones, ones_cat, ones-le}
use lib.Dec.{ltb}
use lib.ListN.{length, get_or, set}
use borrow.Author.Tests.{ltb-true}
use Rattle.lanes.specs.Blocks.{Dealt, Lanes, Next, Summed, begins, counts, in_rows, to_first, in_lane, least_with, parts_to, to_second, split_off_lane}
use Rattle.subsets.specs.Square.{held}
use Rattle.subsets.specs.Subsets.{rising, splits}
use Rattle.lanes.specs.Sums.{beyond, sums}
use Rattle.subsets.specs.Table.{better_at, pair_up, step_of, steps_of}
use Rattle.subsets.proofs.Bellman.{large}
use Rattle.lanes.proofs.Dealing.{lanes_least, least_each, parts_at}
use Rattle.subsets.proofs.Digits.{ones_low, self_lt}
use Rattle.lanes.proofs.Filled.{value_is, value_small, within_more}
use Rattle.subsets.proofs.KeptParts.{ones_pos}
use Rattle.subsets.proofs.Runs.{fold_length, pairs_other, run_more, run_one}
use Rattle.subsets.proofs.Scan.{parts_splits, subset_is}
use Rattle.subsets.proofs.Splits.{and_both, splits_count}

-- ---- lanes

below_eight : List ℕ → Bool
below_eight [] = true
below_eight (x ∷ l) = ltb x 8 && below_eight l

eight_get : (l : List ℕ) (k : ℕ) → below_eight l ≡ true → get_or l k 0 < 8
unfolding below_eight
eight_get [] k e = omega arith
eight_get (x ∷ l) zero e = ltb-true x 8 (and_both (ltb x 8) (below_eight l) e).0
eight_get (x ∷ l) (suc k) e = eight_get l k (and_both (ltb x 8) (below_eight l) e).1

pub low_parts : (k : ℕ) → (get_or to_first k 0 < 8) × (get_or to_second k 0 < 8)
unfolding below_eight
low_parts k = (eight_get to_first k refl, eight_get to_second k refl)

pub low_in_rows : (j : ℕ) → get_or in_rows j 0 < 8
unfolding below_eight
low_in_rows j = eight_get in_rows j refl

-- the lanes of h read blocks before h
lanes_kept : (t t2 ss : List ℕ) (h : ℕ) → 0 < h → ((j : ℕ) → j < 8 * h → get_or t2 j 0 ≡ get_or t j 0) → Lanes t h ss → Lanes t2 h ss
lanes_kept t t2 ss h pos same s =
    record {
      count = s.count;
      least = λ k b.
          s.least k b
          ∙ least_each (in_lane t h k) (in_lane t2 h k) 4294967295 (splits h)
          (λ a m.
          let (p, q, u) = parts_at h (splits h) a (parts_splits h pos) m in
          let f = low_parts k in
          ap₂ (λ (x y : ℕ). x + y) (sym (same (8 * a + get_or to_first k 0) (omega (arith, f.0)))) (sym (same (8 * (h - a) + get_or to_second k 0) (omega (arith, f.1)))));
    }

pub lanes_start : (t rows s0 ss : List ℕ) (h : ℕ) → 0 < h → length ss ≡ 28 → ((k : ℕ) → k < 28 → get_or s0 k 0 ≡ 4294967295) → Dealt t h rows → Summed rows h s0 ss → Lanes t h ss
lanes_start t rows s0 ss h pos count start dealt summed =
    record {
      count = count;
      least = λ k b.
          let f : ℕ → ℕ = λ a. get_or rows (56 * a + k) 0 + get_or rows (56 * (h - a) + 28 + k) 0 in
          summed.lanes k (omega arith)
          ∙ ap (λ (v : ℕ). least_with f v (splits h)) (start k (omega arith))
          ∙ least_each f (in_lane t h k) 4294967295 (splits h)
          (λ a m. let (p, q, u) = parts_at h (splits h) a (parts_splits h pos) m in ap₂ (λ (x y : ℕ). x + y) (dealt.first a k p q b) (dealt.second (h - a) k (omega arith) (omega arith) b));
    }

-- ---- the sizes of subsets in a block

high_and_low : (h l : ℕ) → l < 8 → ones (8 * h + l) ≡ ones h + ones l
high_and_low h l b = ap ones (let e : 8 * h + l ≡ h * 2 ^ 3 + l = omega arith in e) ∙ ones_cat 3 h l b

high_size : (h : ℕ) → 0 < h → ones h ≡ suc (ones (beyond h))
high_size h pos = ones_low h h pos (self_lt h)

pub more_low : (h l : ℕ) → 0 < h → 0 < l → l < 8 → 2 ≤ ones (8 * h + l)
more_low h l p q b = omega (arith, high_and_low h l b, ones_pos h p, ones_pos l q)

pub more_high : (h r : ℕ) → 0 < h → r ≡ beyond h → 0 < r → 2 ≤ ones (8 * h + 0)
more_high h r p e q = omega (arith, high_and_low h 0 (omega arith), high_size h p, ones_pos r q, ap ones e)

-- a single sink has no splits
no_splits : (s : ℕ) → 0 < s → ones s ≡ 1 → splits s ≡ []
no_splits s p o = none (splits s) (omega (arith, splits_count s p, ap (λ (k : ℕ). 2 ^ k) o))
  where
    none : (l : List ℕ) → length l ≡ 0 → l ≡ []
    none [] e = refl
    none (a ∷ l) e = absurd (omega arith)

none_empty : ones 0 ≡ 0
unfolding ones
none_empty = refl

pub single_step : (δ : ℕ → ℕ) (t : List ℕ) (h r : ℕ) → 0 < h → r ≡ beyond h → r ≡ 0 → t ≡ foldl (step_of δ) t (map (pair_up (8 * h + 0)) (splits (8 * h + 0)))
single_step δ t h r p e z =
    let o : ones (8 * h + 0) ≡ 1 = omega (arith, high_and_low h 0 (omega arith), high_size h p, ap ones (sym e ∙ z), none_empty) in
    ap (λ (l : List ℕ). foldl (step_of δ) t (map (pair_up (8 * h + 0)) l)) (sym (no_splits (8 * h + 0) (omega arith) o))

-- ---- one subset of a block after the other

-- its lanes are among those there are
pub lane_room : (l : ℕ) → l < 8 → (0 < counts l) × (begins l + counts l ≤ 28)
lane_room zero h = (omega arith, omega arith)
lane_room (suc zero) h = (omega arith, omega arith)
lane_room (suc (suc zero)) h = (omega arith, omega arith)
lane_room (suc (suc (suc zero))) h = (omega arith, omega arith)
lane_room (suc (suc (suc (suc zero)))) h = (omega arith, omega arith)
lane_room (suc (suc (suc (suc (suc zero))))) h = (omega arith, omega arith)
lane_room (suc (suc (suc (suc (suc (suc zero)))))) h = (omega arith, omega arith)
lane_room (suc (suc (suc (suc (suc (suc (suc zero))))))) h = (omega arith, omega arith)
lane_room (suc (suc (suc (suc (suc (suc (suc (suc l)))))))) h = absurd (omega arith)

-- where the code has them begin and end
abbrev pub groups : List (ℕ × ℕ)
groups = (26, 27) ∷ (20, 22) ∷ (22, 24) ∷ (8, 12) ∷ (24, 26) ∷ (12, 16) ∷ (16, 20) ∷ (0, 8) ∷ []

pub group_at : (l : ℕ) → l < 8 → ((get_or groups l (0, 0)).0 ≡ begins l) × ((get_or groups l (0, 0)).1 ≡ begins l + counts l)
group_at zero h = (refl, refl)
group_at (suc zero) h = (refl, refl)
group_at (suc (suc zero)) h = (refl, refl)
group_at (suc (suc (suc zero))) h = (refl, refl)
group_at (suc (suc (suc (suc zero)))) h = (refl, refl)
group_at (suc (suc (suc (suc (suc zero))))) h = (refl, refl)
group_at (suc (suc (suc (suc (suc (suc zero)))))) h = (refl, refl)
group_at (suc (suc (suc (suc (suc (suc (suc zero))))))) h = (refl, refl)
group_at (suc (suc (suc (suc (suc (suc (suc (suc l)))))))) h = absurd (omega arith)

minus : (a b : ℕ) → a + b - a ≡ b
minus a b = omega arith

-- its entry, from the least of its lanes and of its low parts
module _ (ds t ss : List ℕ) (h l : ℕ) (n : Next ds t ss h l) (b : l < 8) (o : 2 ≤ ones (8 * h + l)) (d lane v begin end : ℕ) (is-d : d ≡ held ds (8 * h + l))
    (is-begin : begin ≡ begins l) (is-end : end ≡ begins l + counts l) (is-lane : lane ≡ least_with (λ (k : ℕ). get_or ss k 0) 4294967295 (rising (end - begin) begin)) (is-v : v ≡ least_with (split_off_lane t (8 * h + l)) lane (parts_to l l)) where
  pos : 0 < 8 * h + l
  pos = omega (arith, n.block.some)

  few_low : 8 * h + l < 2 ^ 12
  few_low = omega (arith, n.block.few)

  short_d : d ≤ 6000000
  short_d = omega (arith, is-d, n.block.short l b)

  least_is : v ≡ least_with (sums t (8 * h + l)) 4294967295 (splits (8 * h + l))
  least_is =
      lanes_least t ss h l v n.block.some b n.lanes
      (is-v
      ∙ ap (λ (x : ℕ). least_with (split_off_lane t (8 * h + l)) x (parts_to l l))
      (is-lane ∙ ap₂ (λ (k i : ℕ). least_with (λ (j : ℕ). get_or ss j 0) 4294967295 (rising k i)) (ap₂ (λ (x y : ℕ). x - y) is-end is-begin ∙ minus (begins l) (counts l)) is-begin))

  pub entry_fits : d + v ≤ 72000000
  entry_fits = omega (arith, least_is, value_small d t (8 * h + l) pos short_d n.block.within o, ones-le 12 (8 * h + l) few_low)

  pub entry_is : set t (8 * h + l) (d + v) ≡ foldl (step_of (held ds)) t (map (pair_up (8 * h + l)) (splits (8 * h + l)))
  entry_is =
      subset_is (held ds) t (8 * h + l) d (d + v) (splits (8 * h + l)) (parts_splits (8 * h + l) pos) (omega (arith, n.block.room)) is-d
      (value_is d t (8 * h + l) v pos few_low short_d n.block.within o least_is
      ∙ ap (λ (x : ℕ). foldl (better_at d t (8 * h + l)) x (splits (8 * h + l))) (sym (n.block.blank l (omega arith) b ∙ large (ones (8 * h + l)) o)))

pub next_more : (ds t t2 ss : List ℕ) (h l : ℕ) → Next ds t ss h l → l < 8 → t2 ≡ foldl (step_of (held ds)) t (map (pair_up (8 * h + l)) (splits (8 * h + l))) → Next ds t2 ss h (l + 1)
next_more ds t t2 ss h l n b e =
    let k = n.block in
    let other : (j : ℕ) → j ≢ 8 * h + l → get_or t2 j 0 ≡ get_or t j 0 = λ j q. ap (λ (u : List ℕ). get_or u j 0) e ∙ pairs_other (held ds) (8 * h + l) t (splits (8 * h + l)) j q in
    let size : length t2 ≡ length t = ap length e ∙ fold_length (held ds) t (map (pair_up (8 * h + l)) (splits (8 * h + l))) in
    record {
      block =
          record {
            some = k.some;
            few = k.few;
            room = omega (arith, size, k.room);
            short = k.short;
            within = λ i q.
                within_more (held ds) t (8 * h + l) (omega (arith, k.some)) (omega (arith, k.few)) (k.short l b) k.within (k.blank l (omega arith) b) t2 (omega (arith, k.room)) e i (omega arith);
            blank = λ i p q. other (8 * h + i) (omega arith) ∙ k.blank i (omega arith) q;
          };
      lanes = lanes_kept t t2 ss h k.some (λ j q. other j (omega arith)) n.lanes;
    }

-- the subset of the high sinks alone, and then the others
pub block_is : (δ : ℕ → ℕ) (t t1 t2 : List ℕ) (h : ℕ) → t1 ≡ foldl (step_of δ) t (map (pair_up (8 * h + 0)) (splits (8 * h + 0))) → t2 ≡ foldl (step_of δ) t1 (steps_of (rising 7 (8 * h + 1)))
    → t2 ≡ foldl (step_of δ) t (steps_of (rising 8 (8 * h)))
block_is δ t t1 t2 h e1 e2 =
    let z : 8 * h + 0 ≡ 8 * h = omega arith in
    e2 ∙ run_more δ 1 7 8 (8 * h) (8 * h + 1) t t1 refl refl (e1 ∙ ap (λ (s : ℕ). foldl (step_of δ) t (map (pair_up s) (splits s))) z ∙ run_one δ (8 * h) t)
