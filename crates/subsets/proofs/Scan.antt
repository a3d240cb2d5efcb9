-- The steps of one subset, on the table.
use mathlib.Core.Path.{◌≡◌, refl, sym, ap, ap₂, subst, subst₂, ◌∙◌}
use mathlib.Core.Logic.{◌≢◌, ◌⊎◌, inl, inr}
use mathlib.Core.Bool.{Bool, true, false}
use mathlib.Core.List.{List, [], ◌∷◌, map, foldl}
use Prim.Native.Nat.{ℕ, zero, suc, ◌+◌, ◌-◌, ◌^◌, ◌<◌, min}
use native.Mathlib.Omega.{arith}
use lib.ListN.{length, take, get_or, set, length-set}
use lib.Seq.{get_or-set_same, get_or-set_other, set-set, set-get_or, take-nil}
use lib.Bits.{bit_and, and_self}
use Rattle.subsets.specs.Subsets.{is_part, keep_if, lowest, splits}
use Rattle.subsets.specs.Table.{better_at, cost_of, pair_up, step_of}
use Rattle.subsets.proofs.Digits.{Sub, sub_and, sub_le}
use Rattle.subsets.proofs.Lowest.{beyond_lt}
use Rattle.subsets.proofs.Splits.{down, down_cons, part_within, splits_rest}

-- each of l is a part of s that is neither empty nor s
abbrev pub Parts : ℕ → List ℕ → Type 0
Parts s [] = Unit {0}
Parts s (a ∷ l) = (0 < a) × (a < s) × Sub a s × Parts s l

pub parts_take : (s k : ℕ) (l : List ℕ) → Parts s l → Parts s (take k l)
parts_take s zero l h = tt
parts_take s (suc k) [] h = tt
parts_take s (suc k) (a ∷ l) h = (h.0, h.1, h.2, parts_take s k l h.3)

pub parts_down : (s k : ℕ) → k < s → Parts s (down s k)
unfolding down
parts_down s zero h = tt
parts_down s (suc k) h = go (is_part s (s - suc k)) refl (parts_down s k (omega arith))
  where
    go : (b : Bool) → is_part s (s - suc k) ≡ b → Parts s (down s k) → Parts s (keep_if b (s - suc k) (down s k))
    go true e p = (omega arith, omega arith, part_within s (s - suc k) e, p)
    go false e p = p

pub parts_splits : (s : ℕ) → 0 < s → Parts s (splits s)
parts_splits s h = subst (Parts s) (sym (splits_rest s h)) (parts_down s (s - 2 ^ lowest s) (beyond_lt s h))

-- the least so far, after one more part
abbrev pub better : (ℕ → ℕ) → List ℕ → ℕ → ℕ → ℕ → ℕ
better δ t s v a = min v (cost_of δ t s a)

-- an entry of s itself does not matter
better_same : (δ : ℕ → ℕ) (t : List ℕ) (s v w : ℕ) (l : List ℕ) → Parts s l → foldl (better δ (set t s v) s) w l ≡ foldl (better δ t s) w l
better_same δ t s v w [] h = refl
better_same δ t s v w (a ∷ l) h =
    let n1 : a ≢ s = omega (arith, h.0, h.1) in
    let n2 : s - a ≢ s = omega (arith, h.0, h.1) in
    let e : better δ (set t s v) s w a ≡ better δ t s w a = ap₂ (λ (x y : ℕ). min w (δ s + x + y)) (get_or-set_other t s a v 0 n1) (get_or-set_other t s (s - a) v 0 n2) in
    ap (λ (x : ℕ). foldl (better δ (set t s v) s) x l) e ∙ better_same δ t s v (better δ t s w a) l h.3

pub fold_set : (δ : ℕ → ℕ) (t : List ℕ) (s : ℕ) (l : List ℕ) → s < length t → Parts s l
    → foldl (step_of δ) t (map (pair_up s) l) ≡ set t s (foldl (better δ t s) (get_or t s 0) l)
fold_set δ t s [] h p = sym (set-get_or t s 0)
fold_set δ t s (a ∷ l) h p =
    fold_set δ (set t s (better δ t s (get_or t s 0) a)) s l (subst (λ (n : ℕ). s < n) (sym (length-set t s (better δ t s (get_or t s 0) a))) h) p.3
    ∙ set-set t s (better δ t s (get_or t s 0) a) (foldl (better δ (set t s (better δ t s (get_or t s 0) a)) s) (get_or (set t s (better δ t s (get_or t s 0) a)) s 0) l)
    ∙ ap (set t s) (ap (λ (x : ℕ). foldl (better δ (set t s (better δ t s (get_or t s 0) a)) s) x l) (get_or-set_same t s (better δ t s (get_or t s 0) a) 0 h) ∙ better_same δ t s (better δ t s (get_or t s 0) a) (better δ t s (get_or t s 0) a) l p.3)

-- ---- one turn of the scan of s
module _ (s : ℕ) (pos : 0 < s) (other left : ℕ) (more : 0 < other) (inside : Sub other (s - 2 ^ lowest s)) (budget : 0 < left) where
  pub scan_count : left - length (down s other) ≡ left - 1 - length (down s (bit_and (other - 1) (s - 2 ^ lowest s)))
  scan_count = omega (arith, ap length (down_cons s pos other more inside))

  pub scan_least : (d : ℕ) (t : List ℕ) (best : ℕ) → foldl (better_at d t s) best (take left (down s other))
      ≡ foldl (better_at d t s) (min best (d + get_or t (s - other) 0 + get_or t other 0)) (take (left - 1) (down s (bit_and (other - 1) (s - 2 ^ lowest s))))
  scan_least d t best =
      let e : left ≡ suc (left - 1) = omega arith in
      let w : s - (s - other) ≡ other = omega (arith, sub_le other (s - 2 ^ lowest s) inside) in
      ap₂ (λ (k : ℕ) (l : List ℕ). foldl (better_at d t s) best (take k l)) e (down_cons s pos other more inside)
      ∙ ap (λ (x : ℕ). foldl (better_at d t s) (min best (d + get_or t (s - other) 0 + get_or t x 0)) (take (left - 1) (down s (bit_and (other - 1) (s - 2 ^ lowest s))))) w

-- ---- the scan of s

-- where a scan of s stands, that began with `budget`: what is left of the splits, of the budget, and the least so far
abbrev pub Scan : ℕ → List ℕ → ℕ → ℕ → ℕ → ℕ → ℕ → Type 0
Scan d t s budget other left best =
    Sub other (s - 2 ^ lowest s)
    × (left - length (down s other) ≡ budget - length (splits s))
    × (foldl (better_at d t s) best (take left (down s other)) ≡ foldl (better_at d t s) (get_or t s 0) (take budget (splits s)))

module _ (d : ℕ) (t : List ℕ) (s : ℕ) (pos : 0 < s) (budget : ℕ) where
  pub scan_start : (rest best : ℕ) → rest ≡ s - 2 ^ lowest s → best ≡ get_or t s 0 → Scan d t s budget rest budget best
  scan_start rest best er eb =
      let e : down s rest ≡ splits s = ap (down s) er ∙ sym (splits_rest s pos) in (
        subst (λ (x : ℕ). Sub x (s - 2 ^ lowest s)) (sym er) (and_self (s - 2 ^ lowest s)),
        ap (λ (l : List ℕ). budget - length l) e,
        ap₂ (λ (v : ℕ) (l : List ℕ). foldl (better_at d t s) v (take budget l)) eb e,
      )

  pub scan_turn : (rest other left best best2 : ℕ) → rest ≡ s - 2 ^ lowest s → Scan d t s budget other left best → 0 < other → 0 < left
      → best2 ≡ min best (d + get_or t (s - other) 0 + get_or t other 0) → Scan d t s budget (bit_and (other - 1) rest) (left - 1) best2
  scan_turn rest other left best best2 er i ho hl eb =
      subst₂ (λ (r v : ℕ). Scan d t s budget (bit_and (other - 1) r) (left - 1) v) (sym er) (sym eb) (
        sub_and (s - 2 ^ lowest s) (other - 1),
        sym (scan_count s pos other left ho i.0 hl) ∙ i.1,
        sym (scan_least s pos other left ho i.0 hl d t best) ∙ i.2,
      )

  pub scan_end : (other left best : ℕ) → Scan d t s budget other left best → (other ≡ 0) ⊎ (left ≡ 0)
      → (left ≡ budget - length (splits s)) × (best ≡ foldl (better_at d t s) (get_or t s 0) (take budget (splits s)))
  unfolding down
  scan_end other left best i (inl e) = (
    omega (arith, i.1, ap (λ (x : ℕ). length (down s x)) e),
    ap (foldl (better_at d t s) best) (sym (take-nil left)) ∙ ap (λ (x : ℕ). foldl (better_at d t s) best (take left (down s x))) (sym e) ∙ i.2,
  )
  scan_end other left best i (inr e) = (
    omega (arith, i.1),
    ap (λ (x : ℕ). foldl (better_at d t s) best (take x (down s other))) (sym e) ∙ i.2,
  )

-- the steps of s into the parts of l, on the table
pub subset_is : (δ : ℕ → ℕ) (t : List ℕ) (s d v : ℕ) (l : List ℕ) → Parts s l → s < length t → d ≡ δ s
    → v ≡ foldl (better_at d t s) (get_or t s 0) l → set t s v ≡ foldl (step_of δ) t (map (pair_up s) l)
subset_is δ t s d v l h k ed ev = ap (set t s) (ev ∙ ap (λ (x : ℕ). foldl (better_at x t s) (get_or t s 0) l) ed) ∙ sym (fold_set δ t s l k h)
