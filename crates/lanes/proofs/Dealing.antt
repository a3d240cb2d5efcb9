-- What the lanes of a block come to: the least over all splits of each of its subsets.
use mathlib.Core.Path.{◌≡◌, refl, sym, ap, ap₂, subst, subst₂, ◌∙◌}
use mathlib.Core.Logic.{◌⊎◌, inl, inr, ⊎_elim}
use mathlib.Core.Bool.{Bool, true, ◌&&◌}
use mathlib.Core.List.{List, [], ◌∷◌, foldl, Memᴰ}
use Prim.Native.Nat.{ℕ, zero, suc, ◌+◌, ◌-◌, ◌*◌, ◌/◌, ◌%◌, ◌^◌, ◌≤◌, ◌<◌, min}
use native.Mathlib.Nat.{le_refl, le_trans, le_antisymm}
use native.Mathlib.Omega.{arith}
use lib.Bits.{bit_and, and_block, and_mod, and_self, and_shr}
use lib.Count.{ones}
use lib.Dec.{eqb, ltb}
use lib.ListN.{length, get_or}
use borrow.Author.Tests.{eqb-true, ltb-true}
use Rattle.lists.proofs.Tests.{or_lt}
use Rattle.lanes.specs.Blocks.{Lanes, Within, begins, counts, to_first, in_lane, lane_least, least_with, parts_to, to_second, split_off_lane}
use Rattle.subsets.specs.Subsets.{is_part, keep, lowest, rising, splits, within}
use Rattle.lanes.specs.Sums.{beyond, sums}
use Rattle.subsets.specs.Table.{better_at}
use Rattle.subsets.proofs.Digits.{Sub, low_le, low_pos, ones_low, self_lt, sub_le, sub_rest}
use Rattle.subsets.proofs.Masks.{lowest_in, ones_single, part_of}
use Rattle.subsets.proofs.Members.{in_keep, in_rising}
use Rattle.lanes.proofs.Parting.{in_parts, parts_in}
use Rattle.subsets.proofs.Scan.{Parts, parts_splits}
use Rattle.subsets.proofs.Splits.{and_both, is_part_lem, part_within}

-- ---- the least of v and of f over a list
least_start : (f : ℕ → ℕ) (v : ℕ) (l : List ℕ) → least_with f v l ≤ v
least_start f v [] = le_refl v
least_start f v (a ∷ l) = omega (arith, least_start f (min v (f a)) l)

least_at : (f : ℕ → ℕ) (v : ℕ) (l : List ℕ) (a : ℕ) → Memᴰ a l → least_with f v l ≤ f a
least_at f v [] a x' = elim x' [ ]
least_at f v (b ∷ l) a (Memᴰ.head q) = omega (arith, least_start f (min v (f b)) l, ap f q)
least_at f v (b ∷ l) a (Memᴰ.tail m) = least_at f (min v (f b)) l a m

-- what is no more than any of them
least_above : (f : ℕ → ℕ) (x v : ℕ) (l : List ℕ) → x ≤ v → ((a : ℕ) → Memᴰ a l → x ≤ f a) → x ≤ least_with f v l
least_above f x v [] h k = h
least_above f x v (a ∷ l) h k = least_above f x (min v (f a)) l (omega (arith, k a (Memᴰ.head refl))) (λ b m. k b (Memᴰ.tail m))

least_no_more : (f g : ℕ → ℕ) (v : ℕ) (l l' : List ℕ) → ((b : ℕ) → Memᴰ b l' → (a : ℕ) × Memᴰ a l × (g b ≡ f a)) → least_with f v l ≤ least_with g v l'
least_no_more f g v l l' back =
    least_above g (least_with f v l) v l' (least_start f v l) (λ b m. let (a, r, e) = back b m in omega (arith, least_at f v l a r))

-- the same values have the same least
pub least_same : (f g : ℕ → ℕ) (v : ℕ) (l l' : List ℕ) → ((a : ℕ) → Memᴰ a l → (b : ℕ) × Memᴰ b l' × (f a ≡ g b))
    → ((b : ℕ) → Memᴰ b l' → (a : ℕ) × Memᴰ a l × (g b ≡ f a)) → least_with f v l ≡ least_with g v l'
least_same f g v l l' to back = le_antisymm (least_no_more f g v l l' back) (least_no_more g f v l' l to)

pub least_each : (f g : ℕ → ℕ) (v : ℕ) (l : List ℕ) → ((a : ℕ) → Memᴰ a l → f a ≡ g a) → least_with f v l ≡ least_with g v l
least_each f g v l e = least_same f g v l l (λ a m. (a, m, e a m)) (λ a m. (a, m, sym (e a m)))

-- ---- parts of the high and of the low sinks
as_block : (x y : ℕ) → 8 * x + y ≡ x * 2 ^ 3 + y
as_block x y = omega arith

module _ (h l : ℕ) (few : l < 8) where
  sub_deal : (x y : ℕ) → Sub x h → Sub y l → Sub (8 * x + y) (8 * h + l)
  sub_deal x y u v =
      ap₂ bit_and (as_block x y) (as_block h l)
      ∙ and_block 3 x h y l (omega (arith, sub_le y l v)) few
      ∙ ap₂ (λ (p q : ℕ). p * 2 ^ 3 + q) u v
      ∙ sym (as_block x y)

  sub_high : (a : ℕ) → Sub a (8 * h + l) → Sub (a / 8) h
  sub_high a u = subst (λ (x : ℕ). Sub (a / 8) x) (let e : (8 * h + l) / 8 ≡ h = omega arith in e) (sym (and_shr a (8 * h + l) 3) ∙ ap (λ (x : ℕ). x / 8) u)

  sub_low : (a : ℕ) → Sub a (8 * h + l) → Sub (a % 8) l
  sub_low a u = subst (λ (x : ℕ). Sub (a % 8) x) (let e : (8 * h + l) % 8 ≡ l = omega arith in e) (sym (and_mod a (8 * h + l) 3) ∙ ap (λ (x : ℕ). x % 8) u)

-- ---- the lanes of each group, one by one
unfoldable each : (ℕ → Bool) → List ℕ → Bool
each p [] = true
each p (a ∷ l) = p a && each p l

each_in : (p : ℕ → Bool) (l : List ℕ) (a : ℕ) → each p l ≡ true → Memᴰ a l → p a ≡ true
unfolding each
each_in p [] a e x'' = elim x'' [ ]
each_in p (b ∷ l) a e (Memᴰ.head q) = ap p q ∙ (and_both (p b) (each p l) e).0
each_in p (b ∷ l) a e (Memᴰ.tail m) = each_in p l a (and_both (p b) (each p l) e).1 m

-- the lane that deals y of the low sinks l to the first part
abbrev lane_of : ℕ → ℕ → ℕ
lane_of l y = begins l + length (parts_to l y)

-- it is one of those of l, and deals the others to the second part
abbrev met : ℕ → ℕ → Bool
met l y = ltb (length (parts_to l y)) (counts l) && (eqb (get_or to_first (lane_of l y) 0) y && eqb (get_or to_second (lane_of l y) 0) (l - y))

-- lane k deals the low sinks l
abbrev fair : ℕ → ℕ → Bool
fair l k = ltb k 27 && (within (get_or to_first k 0) l && eqb (get_or to_second k 0) (l - get_or to_first k 0))

abbrev all_of : ℕ → Bool
all_of l = each (met l) (0 ∷ parts_to l l) && each (fair l) (rising (counts l) (begins l))

all_lanes : each all_of (rising 8 0) ≡ true
unfolding each rising parts_to
all_lanes = refl

module _ (l : ℕ) (few : l < 8) where
  group : (each (met l) (0 ∷ parts_to l l) ≡ true) × (each (fair l) (rising (counts l) (begins l)) ≡ true)
  group =
      and_both (each (met l) (0 ∷ parts_to l l)) (each (fair l) (rising (counts l) (begins l)))
      (each_in all_of (rising 8 0) l all_lanes (in_rising 8 0 l (omega arith) few))

  lane_met : (y : ℕ) → Sub y l → Memᴰ (lane_of l y) (rising (counts l) (begins l)) × (get_or to_first (lane_of l y) 0 ≡ y) × (get_or to_second (lane_of l y) 0 ≡ l - y)
  lane_met y u =
      let (p, q) = and_both (ltb (length (parts_to l y)) (counts l)) (eqb (get_or to_first (lane_of l y) 0) y && eqb (get_or to_second (lane_of l y) 0) (l - y)) (each_in (met l) (0 ∷ parts_to l l) y group.0 (listed y u)) in
      let (f, g) = and_both (eqb (get_or to_first (lane_of l y) 0) y) (eqb (get_or to_second (lane_of l y) 0) (l - y)) q in (
        in_rising (counts l) (begins l) (lane_of l y) (omega arith) (omega (arith, ltb-true (length (parts_to l y)) (counts l) p)),
        eqb-true (get_or to_first (lane_of l y) 0) y f,
        eqb-true (get_or to_second (lane_of l y) 0) (l - y) g,
      )
    where
      listed : (y : ℕ) → Sub y l → Memᴰ y (0 ∷ parts_to l l)
      listed zero u = Memᴰ.head refl
      listed (suc y) u = Memᴰ.tail (in_parts l l (suc y) (omega arith) (sub_le (suc y) l u) u)

  lane_fair : (k : ℕ) → Memᴰ k (rising (counts l) (begins l)) → (k < 27) × Sub (get_or to_first k 0) l × (get_or to_second k 0 ≡ l - get_or to_first k 0)
  lane_fair k m =
      let (p, q) = and_both (ltb k 27) (within (get_or to_first k 0) l && eqb (get_or to_second k 0) (l - get_or to_first k 0)) (each_in (fair l) (rising (counts l) (begins l)) k group.1 m) in
      let (f, g) = and_both (within (get_or to_first k 0) l) (eqb (get_or to_second k 0) (l - get_or to_first k 0)) q in (
        ltb-true k 27 p,
        eqb-true (bit_and (get_or to_first k 0) l) (get_or to_first k 0) f,
        eqb-true (get_or to_second k 0) (l - get_or to_first k 0) g,
      )

-- ---- the splits of s
pub parts_at : (s : ℕ) (l : List ℕ) (a : ℕ) → Parts s l → Memᴰ a l → (0 < a) × (a < s) × Sub a s
parts_at s [] a p x'' = elim x'' [ ]
parts_at s (b ∷ l) a p (Memᴰ.head q) = (omega (arith, p.0), omega (arith, p.1), subst (λ (x : ℕ). Sub x s) (sym q) p.2)
parts_at s (b ∷ l) a p (Memᴰ.tail m) = parts_at s l a p.3 m

-- of two parts, one is a split
either_split : (s a : ℕ) → 0 < a → a < s → Sub a s → Memᴰ a (splits s) ⊎ Memᴰ (s - a) (splits s)
unfolding splits
either_split s a h k u =
    ⊎_elim
    (λ v. inl (listed a k (part_of s a u v)))
    (λ v. inr (listed (s - a) (omega arith) (part_of s (s - a) (sub_rest s a u) v)))
    (lowest_in s s a (omega arith) (self_lt s) u)
  where
    listed : (x : ℕ) → x < s → is_part s x ≡ true → Memᴰ x (keep (is_part s) (rising s 0))
    listed x h e = in_keep (is_part s) (rising s 0) x (in_rising s 0 x (omega arith) (omega arith)) e

-- the least of the splits is no more than any two parts come to
split_least : (t : List ℕ) (s v a : ℕ) → 0 < a → a < s → Sub a s → least_with (sums t s) v (splits s) ≤ get_or t a 0 + get_or t (s - a) 0
split_least t s v a h k u =
    ⊎_elim
    (λ m. least_at (sums t s) v (splits s) a m)
    (λ m. let e : s - (s - a) ≡ a = omega arith in omega (arith, least_at (sums t s) v (splits s) (s - a) m, ap (λ (x : ℕ). get_or t x 0) e))
    (either_split s a h k u)

-- ---- the block of h
module _ (t : List ℕ) (h l : ℕ) (some : 0 < h) (few : l < 8) where
  abbrev whole : ℕ
  whole = 8 * h + l

  abbrev in_lanes : ℕ
  in_lanes = least_with (lane_least t h) 4294967295 (rising (counts l) (begins l))

  abbrev in_all_lanes : ℕ
  in_all_lanes = least_with (split_off_lane t whole) in_lanes (parts_to l l)

  abbrev in_splits : ℕ
  in_splits = least_with (sums t whole) 4294967295 (splits whole)

  -- two parts that both hold high sinks
  lane_at : (x y : ℕ) → Memᴰ x (splits h) → Sub y l → in_all_lanes ≤ get_or t (8 * x + y) 0 + get_or t (8 * (h - x) + (l - y)) 0
  lane_at x y m u =
      let (r, f, g) = lane_met l few y u in
      let e : in_lane t h (lane_of l y) x ≡ get_or t (8 * x + y) 0 + get_or t (8 * (h - x) + (l - y)) 0 = ap₂ (λ (p q : ℕ). get_or t (8 * x + p) 0 + get_or t (8 * (h - x) + q) 0) f g in
      subst (λ (z : ℕ). in_all_lanes ≤ z) e
      (le_trans (least_start (split_off_lane t whole) in_lanes (parts_to l l))
      (le_trans (least_at (lane_least t h) 4294967295 (rising (counts l) (begins l)) (lane_of l y) r)
      (least_at (in_lane t h (lane_of l y)) 4294967295 (splits h) x m)))

  -- one of them holds low sinks alone
  off_at : (p : ℕ) → 0 < p → Sub p l → in_all_lanes ≤ split_off_lane t whole p
  off_at p h u = least_at (split_off_lane t whole) in_lanes (parts_to l l) p (in_parts l l p h (sub_le p l u) u)

  all_at : (a : ℕ) → 0 < a → a < whole → Sub a whole → in_all_lanes ≤ get_or t a 0 + get_or t (whole - a) 0
  all_at a p q u =
      ⊎_elim (λ c. ⊎_elim (λ d. ⊎_elim in_first in_second (either_split h (a / 8) c d hi)) none_second (or_lt (a / 8) h)) none_first (or_lt 0 (a / 8))
    where
      hi : Sub (a / 8) h
      hi = sub_high h l few a u

      lo : Sub (a % 8) l
      lo = sub_low h l few a u

      here : 8 * (a / 8) + a % 8 ≡ a
      here = omega arith

      there : 8 * (h - a / 8) + (l - a % 8) ≡ whole - a
      there = omega (arith, sub_le (a / 8) h hi, sub_le (a % 8) l lo)

      none_first : a / 8 ≤ 0 → in_all_lanes ≤ get_or t a 0 + get_or t (whole - a) 0
      none_first c = omega (arith, off_at a p (subst (λ (x : ℕ). Sub x l) (let f : a % 8 ≡ a = omega arith in f) lo))

      none_second : h ≤ a / 8 → in_all_lanes ≤ get_or t a 0 + get_or t (whole - a) 0
      none_second c =
          let f : l - a % 8 ≡ whole - a = omega (arith, sub_le (a / 8) h hi) in
          let g : whole - (whole - a) ≡ a = omega arith in
          subst (λ (x : ℕ). in_all_lanes ≤ get_or t x 0 + get_or t (whole - a) 0) g (off_at (whole - a) (omega arith) (subst (λ (x : ℕ). Sub x l) f (sub_rest l (a % 8) lo)))

      in_first : Memᴰ (a / 8) (splits h) → in_all_lanes ≤ get_or t a 0 + get_or t (whole - a) 0
      in_first m = subst₂ (λ (x y : ℕ). in_all_lanes ≤ get_or t x 0 + get_or t y 0) here there (lane_at (a / 8) (a % 8) m lo)

      in_second : Memᴰ (h - a / 8) (splits h) → in_all_lanes ≤ get_or t a 0 + get_or t (whole - a) 0
      in_second m =
          let e : 8 * (h - (h - a / 8)) + (l - (l - a % 8)) ≡ a = omega (arith, sub_le (a / 8) h hi, sub_le (a % 8) l lo) in
          omega (arith, subst₂ (λ (x y : ℕ). in_all_lanes ≤ get_or t x 0 + get_or t y 0) there e (lane_at (h - a / 8) (l - a % 8) m (sub_rest l (a % 8) lo)))

  -- and the other way round
  split_lane : (k a : ℕ) → Memᴰ k (rising (counts l) (begins l)) → Memᴰ a (splits h) → in_splits ≤ in_lane t h k a
  split_lane k a m r =
      let (b, f, g) = lane_fair l few k m in
      let (p, q, u) = parts_at h (splits h) a (parts_splits h some) r in
      let c : get_or to_first k 0 ≤ l = sub_le (get_or to_first k 0) l f in
      let e : whole - (8 * a + get_or to_first k 0) ≡ 8 * (h - a) + get_or to_second k 0 = omega (arith, c, g) in
      subst (λ (x : ℕ). in_splits ≤ get_or t (8 * a + get_or to_first k 0) 0 + get_or t x 0) e
      (split_least t whole 4294967295 (8 * a + get_or to_first k 0) (omega arith) (omega arith) (sub_deal h l few a (get_or to_first k 0) u f))

  split_off : (p : ℕ) → Memᴰ p (parts_to l l) → in_splits ≤ split_off_lane t whole p
  split_off p m =
      let (a, b, u) = parts_in l l p m in
      omega (arith, split_least t whole 4294967295 p a (omega arith) (subst (λ (x : ℕ). Sub x whole) (let e : 8 * 0 + p ≡ p = omega arith in e) (sub_deal h l few 0 p refl u)))

  pub block_least : least_with (split_off_lane t (8 * h + l)) (least_with (lane_least t h) 4294967295 (rising (counts l) (begins l))) (parts_to l l) ≡ least_with (sums t (8 * h + l)) 4294967295 (splits (8 * h + l))
  block_least =
      le_antisymm
      (least_above (sums t whole) in_all_lanes 4294967295 (splits whole)
      (le_trans (least_start (split_off_lane t whole) in_lanes (parts_to l l)) (least_start (lane_least t h) 4294967295 (rising (counts l) (begins l))))
      (λ a m. let (p, q, u) = parts_at whole (splits whole) a (parts_splits whole (omega arith)) m in all_at a p q u))
      (least_above (split_off_lane t whole) in_splits in_lanes (parts_to l l)
      (least_above (lane_least t h) in_splits 4294967295 (rising (counts l) (begins l)) (least_start (sums t whole) 4294967295 (splits whole))
      (λ k m. least_above (in_lane t h k) in_splits 4294967295 (splits h) (least_start (sums t whole) 4294967295 (splits whole)) (λ a r. split_lane k a m r)))
      split_off)

pub lanes_least : (t found : List ℕ) (h l v : ℕ) → 0 < h → l < 8 → Lanes t h found
    → v ≡ least_with (split_off_lane t (8 * h + l)) (least_with (λ (k : ℕ). get_or found k 0) 4294967295 (rising (counts l) (begins l))) (parts_to l l)
    → v ≡ least_with (sums t (8 * h + l)) 4294967295 (splits (8 * h + l))
lanes_least t found h l v some few lanes e =
    e
    ∙ ap (λ (x : ℕ). least_with (split_off_lane t (8 * h + l)) x (parts_to l l))
    (least_each (λ (k : ℕ). get_or found k 0) (lane_least t h) 4294967295 (rising (counts l) (begins l)) (λ k m. lanes.least k (lane_fair l few k m).0))
    ∙ block_least t h l some few

-- ---- the entry of s, with its diameter d
fold_steps : (d : ℕ) (t : List ℕ) (s top v : ℕ) (l : List ℕ) → foldl (better_at d t s) (min top (d + v)) l ≡ min top (d + least_with (sums t s) v l)
fold_steps d t s top v [] = refl
fold_steps d t s top v (a ∷ l) =
    ap (λ (x : ℕ). foldl (better_at d t s) x l) (let e : better_at d t s (min top (d + v)) a ≡ min top (d + min v (sums t s a)) = omega arith in e)
    ∙ fold_steps d t s top (min v (sums t s a)) l

pub steps_value : (d : ℕ) (t : List ℕ) (s c : ℕ) → c ≡ least_with (sums t s) 4294967295 (splits s) → d + c < 4294967295 → d + c ≡ foldl (better_at d t s) 4294967295 (splits s)
steps_value d t s c e small =
    let f : d + c ≡ min 4294967295 (d + least_with (sums t s) 4294967295 (splits s)) = ap (λ (x : ℕ). d + x) e ∙ within_top (d + least_with (sums t s) 4294967295 (splits s)) (subst (λ (x : ℕ). d + x < 4294967295) e small) in
    let g : min 4294967295 (d + 4294967295) ≡ 4294967295 = omega arith in
    f ∙ sym (fold_steps d t s 4294967295 4294967295 (splits s)) ∙ ap (λ (x : ℕ). foldl (better_at d t s) x (splits s)) g
  where
    within_top : (x : ℕ) → x < 4294967295 → x ≡ min 4294967295 x
    within_top x h = omega arith

some_sink : (x : ℕ) → 0 < ones x → 0 < x
unfolding ones
some_sink zero h = absurd (omega arith)
some_sink (suc x) h = omega arith

-- no more than the lowest sink alone and the rest come to
pub entry_bound : (t : List ℕ) (s : ℕ) → 0 < s → 2 ≤ ones s → Within s t → least_with (sums t s) 4294967295 (splits s) ≤ 6000000 * (ones s - 2)
entry_bound t s pos two small =
    let o : ones s ≡ suc (ones (beyond s)) = ones_low s s pos (self_lt s) in
    let a : s - beyond s ≡ 2 ^ lowest s = omega (arith, low_le s s pos (self_lt s)) in
    let u : Sub (2 ^ lowest s) s = subst (λ (x : ℕ). Sub x s) a (part_within s (s - beyond s) (is_part_lem s pos (beyond s) (and_self (beyond s)))) in
    let p : 0 < 2 ^ lowest s = low_pos s s in
    let r : 0 < beyond s = some_sink (beyond s) (omega arith) in
    omega (
      arith,
      split_least t s 4294967295 (2 ^ lowest s) p (omega arith) u,
      small (2 ^ lowest s) (omega arith),
      small (beyond s) (omega arith),
      ones_single (lowest s),
    )
