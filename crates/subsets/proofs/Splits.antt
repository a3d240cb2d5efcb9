-- The splits of a subset, one after the other.
use mathlib.Core.Path.{◌≡◌, refl, sym, ap, ap₂, subst, ◌∙◌}
use mathlib.Core.Bool.{Bool, true, false, ◌&&◌, false≢true}
use mathlib.Core.List.{List, [], ◌∷◌}
use Prim.Native.Nat.{ℕ, zero, suc, ◌-◌, ◌*◌, ◌/◌, ◌%◌, ◌^◌, ◌≤◌, ◌<◌}
use native.Mathlib.Nat.{le_refl, le_of_lt, lt_irrefl, lt_of_le_of_lt, pow-succ'}
use native.Mathlib.Decide.{dec_le}
use native.Mathlib.Omega.{arith}
use lib.ListN.{length}
use lib.Bits.{bit_and, and_le_l, and_self}
use lib.Count.{ones}
use borrow.Author.Tests.{eq-eqb, eqb-true}
use Rattle.subsets.specs.Subsets.{holds, is_part, keep, keep_if, lowest, rising, splits, within}
use Rattle.subsets.proofs.Digits.{Sub, gap, left_part, low_le, low_pos, ones_low, part_left, self_lt, sub_and, sub_le}
use Rattle.subsets.proofs.Rank.{rank, rank_next, rank_self, rank_zero}

-- the splits among s - k, .., s - 1
unfoldable pub down : ℕ → ℕ → List ℕ
down s zero = []
down s (suc k) = keep_if (is_part s (s - suc k)) (s - suc k) (down s k)

keep_down : (s k : ℕ) → k ≤ s → keep (is_part s) (rising k (s - k)) ≡ down s k
unfolding keep rising down
keep_down s zero h = refl
keep_down s (suc k) h =
    let e : suc (s - suc k) ≡ s - k = omega arith in
    ap (keep_if (is_part s (s - suc k)) (s - suc k)) (ap (λ (i : ℕ). keep (is_part s) (rising k i)) e ∙ keep_down s k (omega arith))

pub splits_down : (s : ℕ) → splits s ≡ down s s
unfolding splits
splits_down s = ap (λ (i : ℕ). keep (is_part s) (rising s i)) (let e : 0 ≡ s - s = omega arith in e) ∙ keep_down s s (le_refl s)

pub down_skip : (s x : ℕ) → is_part s (s - suc x) ≡ false → down s (suc x) ≡ down s x
unfolding down
down_skip s x e = ap (λ (b : Bool). keep_if b (s - suc x) (down s x)) e

pub down_keep : (s x : ℕ) → is_part s (s - suc x) ≡ true → down s (suc x) ≡ (s - suc x) ∷ down s x
unfolding down
down_keep s x e = ap (λ (b : Bool). keep_if b (s - suc x) (down s x)) e

skip : (s y x : ℕ) → y ≤ x → ((z : ℕ) → y < z → z ≤ x → is_part s (s - z) ≡ false) → down s x ≡ down s y
skip s y zero h f = ap (down s) (let e : 0 ≡ y = omega arith in e)
skip s y (suc x) h f = go (skip s y x) (dec_le y x)
  where
    go : (y ≤ x → ((z : ℕ) → y < z → z ≤ x → is_part s (s - z) ≡ false) → down s x ≡ down s y) → Dec (y ≤ x) → down s (suc x) ≡ down s y
    go ih (yes k) = down_skip s x (f (suc x) (omega arith) (le_refl (suc x))) ∙ ih k (λ z a b. f z a (omega arith))
    go ih (no k) = ap (down s) (let e : suc x ≡ y = omega arith in e)

pub and_both : (a b : Bool) → a && b ≡ true → (a ≡ true) × (b ≡ true)
and_both true b e = (refl, e)
and_both false b e = (e, absurd (false≢true e))

pub part_within : (s a : ℕ) → is_part s a ≡ true → Sub a s
unfolding is_part
part_within s a e = eqb-true (bit_and a s) a (and_both (within a s) (holds a (lowest s)) e).0

module _ (s : ℕ) (pos : 0 < s) where
  -- what is left of s without its lowest sink
  abbrev rest : ℕ
  rest = s - 2 ^ lowest s

  rest_lt : rest < s
  rest_lt = omega (arith, low_le s s pos (self_lt s), low_pos s s)

  pub is_part_lem : (x : ℕ) → Sub x rest → is_part s (s - x) ≡ true
  unfolding is_part
  is_part_lem x u =
      let j = left_part s s x pos (self_lt s) u in
      ap₂ (λ (a b : Bool). a && b) (eq-eqb (bit_and (s - x) s) (s - x) j.0) (eq-eqb ((s - x) / 2 ^ lowest s % 2) 1 j.1)

  is_left : (z : ℕ) → z ≤ s → is_part s (s - z) ≡ true → Sub z rest
  unfolding is_part
  is_left z h e =
      let j = and_both (within (s - z) s) (holds (s - z) (lowest s)) e in
      subst (λ (y : ℕ). Sub y rest) (omega arith) (part_left s s (s - z) pos (self_lt s) (eqb-true (bit_and (s - z) s) (s - z) j.0) (eqb-true ((s - z) / 2 ^ lowest s % 2) 1 j.1))

  not_part : (z : ℕ) → z ≤ s → (Sub z rest → ⊥) → is_part s (s - z) ≡ false
  not_part z h f = go (is_part s (s - z)) refl
    where
      go : (b : Bool) → is_part s (s - z) ≡ b → is_part s (s - z) ≡ false
      go true e = absurd (f (is_left z h e))
      go false e = e

  pub splits_rest : splits s ≡ down s rest
  splits_rest =
      splits_down s ∙ skip s rest s (le_of_lt rest_lt) (λ z a b. not_part z b (λ u. lt_irrefl z (lt_of_le_of_lt (sub_le z rest u) a)))

  -- the next split after s - x
  pub down_cons : (x : ℕ) → 0 < x → Sub x rest → down s x ≡ (s - x) ∷ down s (bit_and (x - 1) rest)
  down_cons zero h u = absurd (omega arith)
  down_cons (suc x) h u =
      let x≤ : suc x ≤ rest = sub_le (suc x) rest u in
      let y≤ : bit_and (suc x - 1) rest ≤ x = omega (arith, and_le_l (suc x - 1) rest) in
      down_keep s x (is_part_lem (suc x) u)
      ∙ ap (λ (l : List ℕ). (s - suc x) ∷ l) (skip s (bit_and (suc x - 1) rest) x y≤ (λ z a b. not_part z (omega (arith, rest_lt)) (λ v. lt_irrefl z (lt_of_le_of_lt (gap rest (suc x) z u v (omega arith)) a))))

  pub down_length : (f x : ℕ) → x ≤ f → Sub x rest → length (down s x) ≡ rank s rest x
  unfolding down
  down_length zero x h u = ap (λ (y : ℕ). length (down s y)) (let e : x ≡ 0 = omega arith in e) ∙ sym (rank_zero s rest) ∙ ap (rank s rest) (let e : 0 ≡ x = omega arith in e)
  down_length (suc f) zero h u = sym (rank_zero s rest)
  down_length (suc f) (suc x) h u =
      ap length (down_cons (suc x) (omega arith) u)
      ∙ ap suc (down_length f (bit_and (suc x - 1) rest) (omega (arith, and_le_l (suc x - 1) rest)) (sub_and rest (suc x - 1)))
      ∙ sym (rank_next s rest (suc x) u (omega arith) (omega (arith, rest_lt, self_lt s)))

  -- how many splits
  pub splits_count : 2 * suc (length (splits s)) ≡ 2 ^ ones s
  splits_count =
      ap (λ (l : List ℕ). 2 * suc (length l)) splits_rest
      ∙ ap (λ (k : ℕ). 2 * suc k) (down_length rest rest (le_refl rest) (and_self rest))
      ∙ ap (λ (k : ℕ). 2 * k) (rank_self s rest (omega (arith, rest_lt, self_lt s)))
      ∙ sym (pow-succ' 2 (ones rest))
      ∙ ap (λ (k : ℕ). 2 ^ k) (sym (ones_low s s pos (self_lt s)))
