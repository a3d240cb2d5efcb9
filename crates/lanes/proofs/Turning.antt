-- The lanes of a high set, split by split.
use mathlib.Core.Path.{◌≡◌, refl, sym, ap, ap₂, subst, ◌∙◌}
use mathlib.Core.List.{List}
use Prim.Native.Nat.{ℕ, ◌+◌, ◌-◌, ◌*◌, ◌^◌, ◌≤◌, ◌<◌, min}
use native.Mathlib.Decide.{dec_lt}
use native.Mathlib.Nat.{le_refl}
use native.Mathlib.Omega.{arith}
use lib.ListN.{length, get_or, set, length-set}
use lib.Seq.{get_or-set_same, get_or-set_other}
use lib.Bits.{bit_and, and_le_l, and_self}
use Rattle.lanes.specs.Blocks.{Meets, Summed, least_with}
use Rattle.subsets.specs.Subsets.{lowest, splits}
use Rattle.subsets.proofs.Digits.{Sub, sub_and, sub_le}
use Rattle.subsets.proofs.Lowest.{beyond_lt}
use Rattle.subsets.proofs.Splits.{down, down_cons, splits_rest}

-- ---- one turn

-- the lanes below k have had their turn
pub record Turning (rows : List ℕ) (a b : ℕ) (sums₀ : List ℕ) (k : ℕ) (sums : List ℕ) : Type 0 where
  pub count : length sums ≡ 28
  pub done : (j : ℕ) → j < k → get_or sums j 0 ≡ min (get_or sums₀ j 0) (get_or rows (a + j) 0 + get_or rows (b + j) 0)
  pub left : (j : ℕ) → k ≤ j → get_or sums j 0 ≡ get_or sums₀ j 0

pub turning_start : {rows : List ℕ} {a b : ℕ} {sums : List ℕ} → length sums ≡ 28 → Turning rows a b sums 0 sums
turning_start e = record { count = e; done = λ j h. absurd (omega arith); left = λ j h. refl }

pub turning_more : {rows : List ℕ} {a b : ℕ} {sums₀ : List ℕ} {k : ℕ} {sums : List ℕ} {v : ℕ} → Turning rows a b sums₀ k sums → k < 28
    → v ≡ min (get_or sums k 0) (get_or rows (a + k) 0 + get_or rows (b + k) 0) → Turning rows a b sums₀ (k + 1) (set sums k v)
turning_more {rows} {a} {b} {sums₀} {k} {sums} {v} i l ev = record {
  count = length-set sums k v ∙ i.count;
  done = λ j h. go j h (dec_lt j k);
  left = λ j h. get_or-set_other sums k j v 0 (λ e. omega arith) ∙ i.left j (omega arith);
}
  where
    here : get_or (set sums k v) k 0 ≡ min (get_or sums₀ k 0) (get_or rows (a + k) 0 + get_or rows (b + k) 0)
    here =
        get_or-set_same sums k v 0 (omega (arith, i.count)) ∙ ev ∙ ap (λ (x : ℕ). min x (get_or rows (a + k) 0 + get_or rows (b + k) 0)) (i.left k (le_refl k))

    go : (j : ℕ) → j < k + 1 → Dec (j < k) → get_or (set sums k v) j 0 ≡ min (get_or sums₀ j 0) (get_or rows (a + j) 0 + get_or rows (b + j) 0)
    go j h (yes p) = get_or-set_other sums k j v 0 (λ e. omega arith) ∙ i.done j p
    go j h (no p) =
        subst (λ (x : ℕ). get_or (set sums k v) x 0 ≡ min (get_or sums₀ x 0) (get_or rows (a + x) 0 + get_or rows (b + x) 0)) (let e : k ≡ j = omega arith in e) here

pub turning_end : {rows : List ℕ} {a b : ℕ} {sums₀ : List ℕ} {k : ℕ} {sums : List ℕ} → Turning rows a b sums₀ k sums → 28 ≤ k → Meets rows a b sums₀ sums
turning_end i h = record { lanes = λ j l. i.done j (omega arith) }

-- ---- all turns

-- what the split of h into a and the rest comes to in lane k, by the rows
abbrev by_rows : List ℕ → ℕ → ℕ → ℕ → ℕ
by_rows rows h k a = get_or rows (56 * a + k) 0 + get_or rows (56 * (h - a) + 28 + k) 0

-- where the turns of h stand: what is left of the splits, and the least so far by lane
pub record Lanewise (rows : List ℕ) (h : ℕ) (sums₀ : List ℕ) (other : ℕ) (sums : List ℕ) : Type 0 where
  pub count : length sums ≡ 28
  pub below : other < h
  pub inside : Sub other (h - 2 ^ lowest h)
  pub least : (k : ℕ) → k < 28 → least_with (by_rows rows h k) (get_or sums k 0) (down h other) ≡ least_with (by_rows rows h k) (get_or sums₀ k 0) (splits h)

pub lanewise_start : {rows : List ℕ} {h : ℕ} {sums : List ℕ} {rest : ℕ} → length sums ≡ 28 → 0 < h → rest ≡ h - 2 ^ lowest h → Lanewise rows h sums rest sums
lanewise_start {rows} {h} {sums} {rest} n pos e = record {
  count = n;
  below = omega (arith, beyond_lt h pos);
  inside = subst (λ (x : ℕ). Sub x (h - 2 ^ lowest h)) (sym e) (and_self (h - 2 ^ lowest h));
  least = λ k l. ap (least_with (by_rows rows h k) (get_or sums k 0)) (ap (down h) e ∙ sym (splits_rest h pos));
}

pub lanewise_turn : {rows : List ℕ} {h : ℕ} {sums₀ : List ℕ} {other rest a b : ℕ} {sums sums' : List ℕ} → 0 < h → rest ≡ h - 2 ^ lowest h → 0 < other
    → Lanewise rows h sums₀ other sums → a ≡ 56 * (h - other) → b ≡ 56 * other + 28 → length sums' ≡ 28 → Meets rows a b sums sums'
    → Lanewise rows h sums₀ (bit_and (other - 1) rest) sums'
lanewise_turn {rows} {h} {sums₀} {other} {rest} {a} {b} {sums} {sums'} pos er more i ea eb n m =
    subst (λ (r : ℕ). Lanewise rows h sums₀ (bit_and (other - 1) r) sums') (sym er)
    record {
      count = n;
      below = omega (arith, i.below, and_le_l (other - 1) (h - 2 ^ lowest h));
      inside = sub_and (h - 2 ^ lowest h) (other - 1);
      least = turn;
    }
  where
    turn : (k : ℕ) → k < 28
        → least_with (by_rows rows h k) (get_or sums' k 0) (down h (bit_and (other - 1) (h - 2 ^ lowest h))) ≡ least_with (by_rows rows h k) (get_or sums₀ k 0) (splits h)
    turn k l =
        let w : h - (h - other) ≡ other = omega (arith, sub_le other (h - 2 ^ lowest h) i.inside) in
        let e2 : b + k ≡ 56 * (h - (h - other)) + 28 + k = ap (λ (x : ℕ). x + k) eb ∙ ap (λ (x : ℕ). 56 * x + 28 + k) (sym w) in
        let e = m.lanes k l ∙ ap₂ (λ (x y : ℕ). min (get_or sums k 0) (get_or rows (x + k) 0 + get_or rows y 0)) ea e2 in
        ap (λ (v : ℕ). least_with (by_rows rows h k) v (down h (bit_and (other - 1) (h - 2 ^ lowest h)))) e
        ∙ ap (least_with (by_rows rows h k) (get_or sums k 0)) (sym (down_cons h pos other more i.inside))
        ∙ i.least k l

pub lanewise_end : {rows : List ℕ} {h : ℕ} {sums₀ : List ℕ} {other : ℕ} {sums : List ℕ} → Lanewise rows h sums₀ other sums → other ≡ 0 → Summed rows h sums₀ sums
unfolding down
lanewise_end {rows} {h} {sums₀} {other} {sums} i e = record {
  lanes = λ k l. ap (λ (x : ℕ). least_with (by_rows rows h k) (get_or sums k 0) (down h x)) (sym e) ∙ i.least k l;
}
