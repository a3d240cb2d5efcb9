-- The kept split of a subset: the scan for it, and that it is a split.
use mathlib.Core.Path.{◌≡◌, refl, sym, ap, ap₂, subst, ◌∙◌}
use mathlib.Core.Bool.{Bool, true, false, cond}
use mathlib.Core.List.{List, [], ◌∷◌}
use Prim.Native.Nat.{ℕ, zero, suc, ◌+◌, ◌-◌, ◌^◌, ◌≤◌, ◌<◌}
use native.Mathlib.Omega.{arith}
use lib.Dec.{eqb}
use lib.ListN.{get_or}
use lib.Bits.{bit_and, and_self}
use lib.Count.{ones}
use borrow.Author.Tests.{eq-eqb, ne_eqb}
use Rattle.subsets.specs.Kept.{first_or, kept_part, meets}
use Rattle.subsets.specs.Subsets.{lowest, splits}
use Rattle.subsets.proofs.Digits.{Sub, left_part, low_le, low_pos, ones_low, self_lt, sub_le}
use Rattle.subsets.proofs.Scan.{Parts, parts_splits}
use Rattle.subsets.proofs.Splits.{down, down_cons, splits_rest}

pub first_yes : (p : ℕ → Bool) (o x : ℕ) (l : List ℕ) → p x ≡ true → first_or p o (x ∷ l) ≡ x
unfolding first_or
first_yes p o x l e = ap (λ (b : Bool). cond b x (first_or p o l)) e

pub first_no : (p : ℕ → Bool) (o x : ℕ) (l : List ℕ) → p x ≡ false → first_or p o (x ∷ l) ≡ first_or p o l
unfolding first_or
first_no p o x l e = ap (λ (b : Bool). cond b x (first_or p o l)) e

-- ---- the scan for the kept split

-- what a scan that stands at `other` finds, where d is the diameter of s and g its entry
abbrev pub meets_at : ℕ → List ℕ → ℕ → ℕ → ℕ → Bool
meets_at d t s g a = eqb (d + get_or t a 0 + get_or t (s - a) 0) g

abbrev pub found : ℕ → List ℕ → ℕ → ℕ → ℕ → ℕ
found d t s g other = first_or (meets_at d t s g) (2 ^ lowest s) (down s other)

module _ (d : ℕ) (t : List ℕ) (s g : ℕ) (pos : 0 < s) where
  pub kept_start : (δ : ℕ → ℕ) (rest : ℕ) → d ≡ δ s → g ≡ get_or t s 0 → rest ≡ s - 2 ^ lowest s → found d t s g rest ≡ kept_part δ t s
  unfolding kept_part
  kept_start δ rest ed eg er =
      ap (found d t s g) er
      ∙ ap (first_or (meets_at d t s g) (2 ^ lowest s)) (sym (splits_rest s pos))
      ∙ ap₂ (λ (x y : ℕ). first_or (meets_at x t s y) (2 ^ lowest s) (splits s)) ed eg

  pub kept_none : found d t s g 0 ≡ 2 ^ lowest s
  unfolding down first_or
  kept_none = refl

  module _ (other : ℕ) (more : 0 < other) (inside : Sub other (s - 2 ^ lowest s)) where
    back : s - (s - other) ≡ other
    back = omega (arith, sub_le other (s - 2 ^ lowest s) inside)

    cost_is : d + get_or t (s - other) 0 + get_or t (s - (s - other)) 0 ≡ d + get_or t (s - other) 0 + get_or t other 0
    cost_is = ap (λ (x : ℕ). d + get_or t (s - other) 0 + get_or t x 0) back

    pub kept_hit : d + get_or t (s - other) 0 + get_or t other 0 ≡ g → found d t s g other ≡ s - other
    kept_hit e =
        ap (first_or (meets_at d t s g) (2 ^ lowest s)) (down_cons s pos other more inside)
        ∙ first_yes (meets_at d t s g) (2 ^ lowest s) (s - other) (down s (bit_and (other - 1) (s - 2 ^ lowest s))) (eq-eqb (d + get_or t (s - other) 0 + get_or t (s - (s - other)) 0) g (cost_is ∙ e))

    pub kept_miss : (d + get_or t (s - other) 0 + get_or t other 0 ≡ g → ⊥) → found d t s g other ≡ found d t s g (bit_and (other - 1) (s - 2 ^ lowest s))
    kept_miss e =
        ap (first_or (meets_at d t s g) (2 ^ lowest s)) (down_cons s pos other more inside)
        ∙ first_no (meets_at d t s g) (2 ^ lowest s) (s - other) (down s (bit_and (other - 1) (s - 2 ^ lowest s))) (ne_eqb (d + get_or t (s - other) 0 + get_or t (s - (s - other)) 0) g (λ k. e (sym cost_is ∙ k)))

-- ---- the kept part is a part

abbrev pub Part : ℕ → ℕ → Type 0
Part s a = (0 < a) × (a < s) × Sub a s

first_part : (p : ℕ → Bool) (o s : ℕ) (l : List ℕ) → Part s o → Parts s l → Part s (first_or p o l)
unfolding first_or
first_part p o s [] h k = h
first_part p o s (x ∷ l) h k = go (p x) (first_part p o s l h k.3)
  where
    go : (b : Bool) → Part s (first_or p o l) → Part s (cond b x (first_or p o l))
    go true r = (k.0, k.1, k.2)
    go false r = r

pub ones_pos : (s : ℕ) → 0 < s → 0 < ones s
ones_pos s h = omega (arith, ones_low s s h (self_lt s))

ones_none : ones 0 ≡ 0
unfolding ones
ones_none = refl

pub rest_pos : (s : ℕ) → 0 < s → 2 ≤ ones s → 0 < s - 2 ^ lowest s
rest_pos s h l = go (s - 2 ^ lowest s) refl
  where
    go : (r : ℕ) → s - 2 ^ lowest s ≡ r → 0 < s - 2 ^ lowest s
    go zero e = absurd (omega (arith, ones_low s s h (self_lt s), ap ones e, ones_none))
    go (suc r) e = omega arith

pub low_part : (s : ℕ) → 0 < s → 2 ≤ ones s → Part s (2 ^ lowest s)
low_part s h l = (
  low_pos s s,
  omega (arith, rest_pos s h l),
  subst (λ (x : ℕ). Sub x s) (let e : s - (s - 2 ^ lowest s) ≡ 2 ^ lowest s = omega (arith, low_le s s h (self_lt s)) in e) (left_part s s (s - 2 ^ lowest s) h (self_lt s) (and_self (s - 2 ^ lowest s))).0,
)

pub kept_part_lem : (δ : ℕ → ℕ) (t : List ℕ) (s : ℕ) → 0 < s → 2 ≤ ones s → Part s (kept_part δ t s)
unfolding kept_part
kept_part_lem δ t s h l =
    first_part (meets δ t s) (2 ^ lowest s) s (splits s) (low_part s h l)
    (parts_splits s h)
