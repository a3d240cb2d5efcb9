-- The splits of a subset four by four: each other part without its second and third sink, with either, and with both.
use mathlib.Core.Path.{◌≡◌, sym, ap, ap₂, subst, subst₂, ◌∙◌}
use mathlib.Core.Logic.{◌⊎◌, inl, inr}
use mathlib.Core.List.{List, ◌∷◌, foldl}
use Prim.Native.Nat.{ℕ, zero, suc, ◌+◌, ◌-◌, ◌*◌, ◌/◌, ◌%◌, ◌^◌, ◌≤◌, ◌<◌, min}
use native.Mathlib.Omega.{arith}
use lib.Bits.{bit_and, and_self, and_step}
use lib.ListN.{get_or}
use Rattle.subsets.specs.Best.{least_of}
use Rattle.subsets.specs.Subsets.{lowest, splits}
use Rattle.lanes.specs.Sums.{Leading, apart, beyond, sums, three_of}
use Rattle.subsets.specs.Table.{better_at}
use Rattle.subsets.proofs.Digits.{Sub, low, low_even, low_le, low_odd, low_pos, parity, self_lt, sub_and, sub_digit, sub_half, sub_join, sub_le}
use Rattle.subsets.proofs.Lowest.{beyond_lt}
use Rattle.subsets.proofs.Recursion.{fold_least}
use Rattle.subsets.proofs.Splits.{down, down_cons, splits_rest}

-- ---- y lies within r without its lowest digit: the next below y, and the next below y with that digit
next_below : (d r y : ℕ) → 0 < r → r < 2 ^ d → Sub y (r - low d r) → 0 < y → bit_and (y - 1) r ≡ bit_and (y - 1) (r - low d r) + low d r
next_below zero r y h k u p = absurd (omega arith)
next_below (suc d) r y h k u p = go (next_below d (r / 2) (y / 2)) (parity r)
  where
    go : (0 < r / 2 → r / 2 < 2 ^ d → Sub (y / 2) (r / 2 - low d (r / 2)) → 0 < y / 2 → bit_and (y / 2 - 1) (r / 2) ≡ bit_and (y / 2 - 1) (r / 2 - low d (r / 2)) + low d (r / 2))
        → (r % 2 ≡ 0) ⊎ (r % 2 ≡ 1) → bit_and (y - 1) r ≡ bit_and (y - 1) (r - low (suc d) r) + low (suc d) r
    go ih (inl e) =
        let e1 : low (suc d) r ≡ 2 * low d (r / 2) = low_even d r e in
        let l1 : low d (r / 2) ≤ r / 2 = low_le d (r / 2) (omega arith) (omega arith) in
        let e2 : (r - low (suc d) r) / 2 ≡ r / 2 - low d (r / 2) = omega arith in
        let g : y % 2 ≡ 0 = omega (arith, sub_digit y (r - low (suc d) r) u) in
        let m : y / 2 - 1 ≡ (y - 1) / 2 = omega arith in
        let i = ih (omega arith) (omega arith) (subst (Sub (y / 2)) e2 (sub_half y (r - low (suc d) r) u)) (omega arith) in
        let a : bit_and ((y - 1) / 2) (r / 2) ≡ bit_and ((y - 1) / 2) ((r - low (suc d) r) / 2) + low d (r / 2) =
        subst₂ (λ (v w : ℕ). bit_and v (r / 2) ≡ bit_and v w + low d (r / 2)) m (sym e2) i in
        omega (arith, and_step (y - 1) r, and_step (y - 1) (r - low (suc d) r))
    go ih (inr o) =
        let e1 : low (suc d) r ≡ 1 = low_odd d r o in
        let e2 : (r - low (suc d) r) / 2 ≡ r / 2 = omega arith in
        let g : y % 2 ≡ 0 = omega (arith, sub_digit y (r - low (suc d) r) u) in
        let a : bit_and ((y - 1) / 2) ((r - low (suc d) r) / 2) ≡ bit_and ((y - 1) / 2) (r / 2) = ap (bit_and ((y - 1) / 2)) e2 in
        omega (arith, and_step (y - 1) r, and_step (y - 1) (r - low (suc d) r))

as_digits : (b h x r y : ℕ) → b ≡ h * 2 + min (x % 2) (r % 2) → h ≡ y / 2 → r % 2 ≡ 0 → y % 2 ≡ 0 → b ≡ y
as_digits b h x r y e f g k = omega arith

next_with : (d r y : ℕ) → 0 < r → r < 2 ^ d → Sub y (r - low d r) → bit_and (y + low d r - 1) r ≡ y
next_with zero r y h k u = absurd (omega arith)
next_with (suc d) r y h k u = go (next_with d (r / 2) (y / 2)) (parity r)
  where
    go : (0 < r / 2 → r / 2 < 2 ^ d → Sub (y / 2) (r / 2 - low d (r / 2)) → bit_and (y / 2 + low d (r / 2) - 1) (r / 2) ≡ y / 2)
        → (r % 2 ≡ 0) ⊎ (r % 2 ≡ 1) → bit_and (y + low (suc d) r - 1) r ≡ y
    go ih (inl e) =
        let e1 : low (suc d) r ≡ 2 * low d (r / 2) = low_even d r e in
        let l1 : low d (r / 2) ≤ r / 2 = low_le d (r / 2) (omega arith) (omega arith) in
        let p : 0 < low d (r / 2) = low_pos d (r / 2) in
        let e2 : (r - low (suc d) r) / 2 ≡ r / 2 - low d (r / 2) = omega arith in
        let g : y % 2 ≡ 0 = omega (arith, sub_digit y (r - low (suc d) r) u) in
        let m : (y + low (suc d) r - 1) / 2 ≡ y / 2 + low d (r / 2) - 1 = omega arith in
        let a : bit_and ((y + low (suc d) r - 1) / 2) (r / 2) ≡ y / 2 =
        ap (λ (x : ℕ). bit_and x (r / 2)) m ∙ ih (omega arith) (omega arith) (subst (Sub (y / 2)) e2 (sub_half y (r - low (suc d) r) u)) in
        as_digits (bit_and (y + low (suc d) r - 1) r) (bit_and ((y + low (suc d) r - 1) / 2) (r / 2)) (y + low (suc d) r - 1) r y (and_step (y + low (suc d) r - 1) r) a e g
    go ih (inr o) =
        let e1 : low (suc d) r ≡ 1 = low_odd d r o in
        let e2 : (r - low (suc d) r) / 2 ≡ r / 2 = omega arith in
        let g : y % 2 ≡ 0 = omega (arith, sub_digit y (r - low (suc d) r) u) in
        ap (λ (x : ℕ). bit_and x r) (let e : y + low (suc d) r - 1 ≡ y = omega arith in e)
        ∙ sub_join y r (omega arith) (subst (Sub (y / 2)) e2 (sub_half y (r - low (suc d) r) u))

plus_low : (d r y : ℕ) → 0 < r → r < 2 ^ d → Sub y (r - low d r) → Sub (y + low d r) r
plus_low zero r y h k u = absurd (omega arith)
plus_low (suc d) r y h k u = go (plus_low d (r / 2) (y / 2)) (parity r)
  where
    go : (0 < r / 2 → r / 2 < 2 ^ d → Sub (y / 2) (r / 2 - low d (r / 2)) → Sub (y / 2 + low d (r / 2)) (r / 2)) → (r % 2 ≡ 0) ⊎ (r % 2 ≡ 1) → Sub (y + low (suc d) r) r
    go ih (inl e) =
        let e1 : low (suc d) r ≡ 2 * low d (r / 2) = low_even d r e in
        let e2 : (r - low (suc d) r) / 2 ≡ r / 2 - low d (r / 2) = omega arith in
        let g : y % 2 ≡ 0 = omega (arith, sub_digit y (r - low (suc d) r) u) in
        let m : y / 2 + low d (r / 2) ≡ (y + low (suc d) r) / 2 = omega arith in
        sub_join (y + low (suc d) r) r (omega arith) (subst (λ (x : ℕ). Sub x (r / 2)) m (ih (omega arith) (omega arith) (subst (Sub (y / 2)) e2 (sub_half y (r - low (suc d) r) u))))
    go ih (inr o) =
        let e1 : low (suc d) r ≡ 1 = low_odd d r o in
        let e2 : (r - low (suc d) r) / 2 ≡ r / 2 = omega arith in
        let g : y % 2 ≡ 0 = omega (arith, sub_digit y (r - low (suc d) r) u) in
        let m : y / 2 ≡ (y + low (suc d) r) / 2 = omega arith in
        sub_join (y + low (suc d) r) r (omega arith) (subst₂ Sub m e2 (sub_half y (r - low (suc d) r) u))

-- ---- a subset r, and its parts y without its lowest
module _ (r : ℕ) (pos : 0 < r) where
  abbrev lowest_of : ℕ
  lowest_of = 2 ^ lowest r

  after_with : (y : ℕ) → Sub y (beyond r) → bit_and (y + lowest_of - 1) r ≡ y
  after_with y u = next_with r r y pos (self_lt r) u

  after_without : (y : ℕ) → 0 < y → Sub y (beyond r) → bit_and (y - 1) r ≡ bit_and (y - 1) (beyond r) + lowest_of
  after_without y h u = next_below r r y pos (self_lt r) u h

  without : (y : ℕ) → Sub y (beyond r) → Sub y r
  without y u = subst (λ (x : ℕ). Sub x r) (after_with y u) (sub_and r (y + lowest_of - 1))

  with_lowest : (y : ℕ) → Sub y (beyond r) → Sub (y + lowest_of) r
  with_lowest y u = plus_low r r y pos (self_lt r) u

  whole : r ≡ beyond r + lowest_of
  whole = omega (arith, low_le r r pos (self_lt r))

-- ---- the splits of s, by the other part
splits_first : (s : ℕ) → 0 < s → 0 < beyond s → splits s ≡ (s - beyond s) ∷ down s (beyond (beyond s))
splits_first s pos more =
    splits_rest s pos ∙ down_cons s pos (beyond s) more (and_self (beyond s))
    ∙ ap (λ (x : ℕ). (s - beyond s) ∷ down s x) (ap (λ (x : ℕ). bit_and (x - 1) (beyond s)) (whole (beyond s) more) ∙ after_with (beyond s) more (beyond (beyond s)) (and_self (beyond (beyond s))))

module _ (s : ℕ) (pos : 0 < s) (more : 0 < beyond s) (much : 0 < beyond (beyond s)) where
  abbrev second : ℕ
  second = 2 ^ lowest (beyond s)

  abbrev third : ℕ
  third = 2 ^ lowest (beyond (beyond s))

  abbrev last : ℕ
  last = beyond (beyond (beyond s))

  -- with both, with the third, with the second
  down_three : (y : ℕ) → Sub y last → down s (y + third + second) ≡ (s - (y + third + second)) ∷ ((s - (y + third)) ∷ ((s - (y + second)) ∷ down s y))
  down_three y u =
      let v : Sub y (beyond (beyond s)) = without (beyond (beyond s)) much y u in
      let w : Sub (y + third) (beyond (beyond s)) = with_lowest (beyond (beyond s)) much y u in
      let p : 0 < third = low_pos (beyond (beyond s)) (beyond (beyond s)) in
      let q : 0 < second = low_pos (beyond s) (beyond s) in
      down_cons s pos (y + third + second) (omega arith) (with_lowest (beyond s) more (y + third) w)
      ∙ ap (λ (x : ℕ). (s - (y + third + second)) ∷ down s x) (after_with (beyond s) more (y + third) w)
      ∙ ap (λ (l : List ℕ). (s - (y + third + second)) ∷ l)
      (down_cons s pos (y + third) (omega arith) (without (beyond s) more (y + third) w)
      ∙ ap (λ (x : ℕ). (s - (y + third)) ∷ down s x) (after_without (beyond s) more (y + third) (omega arith) w ∙ ap (λ (x : ℕ). x + second) (after_with (beyond (beyond s)) much y u))
      ∙ ap (λ (l : List ℕ). (s - (y + third)) ∷ l)
      (down_cons s pos (y + second) (omega arith) (with_lowest (beyond s) more y v) ∙ ap (λ (x : ℕ). (s - (y + second)) ∷ down s x) (after_with (beyond s) more y v)))

  -- with neither
  down_one : (y : ℕ) → 0 < y → Sub y last → down s y ≡ (s - y) ∷ down s (bit_and (y - 1) last + third + second)
  down_one y h u =
      let v : Sub y (beyond (beyond s)) = without (beyond (beyond s)) much y u in
      down_cons s pos y h (without (beyond s) more y v)
      ∙ ap (λ (x : ℕ). (s - y) ∷ down s x) (after_without (beyond s) more y h v ∙ ap (λ (x : ℕ). x + second) (after_without (beyond (beyond s)) much y h u))

-- ---- the least of the sums
zero-add : (x : ℕ) → 0 + x ≡ x
zero-add x = omega arith

min_assoc : (b p q : ℕ) → min (min b p) q ≡ min b (min p q)
min_assoc b p q = omega arith

better_apart : (t : List ℕ) (s v x : ℕ) → x ≤ s → better_at 0 t s v (s - x) ≡ min v (apart t s x)
better_apart t s v x h =
    let w : s - (s - x) ≡ x = omega arith in
    ap (λ (y : ℕ). min v (0 + get_or t (s - x) 0 + get_or t y 0)) w ∙ omega arith

-- three splits more
fold_three : (t : List ℕ) (s b x y z : ℕ) (l : List ℕ) → x ≤ s → y ≤ s → z ≤ s
    → foldl (better_at 0 t s) b ((s - x) ∷ ((s - y) ∷ ((s - z) ∷ l))) ≡ foldl (better_at 0 t s) (min b (min (min (apart t s x) (apart t s y)) (apart t s z))) l
fold_three t s b x y z l hx hy hz =
    ap (λ (v : ℕ). foldl (better_at 0 t s) v l)
    (better_apart t s (better_at 0 t s (better_at 0 t s b (s - x)) (s - y)) z hz
    ∙ ap (λ (v : ℕ). min v (apart t s z)) (better_apart t s (better_at 0 t s b (s - x)) y hy ∙ ap (λ (v : ℕ). min v (apart t s y)) (better_apart t s b x hx) ∙ min_assoc b (apart t s x) (apart t s y))
    ∙ min_assoc b (min (apart t s x) (apart t s y)) (apart t s z))

-- where a scan by fours stands that began with the last three splits: y is the next other part without the second and third sink, and b the least so far
abbrev pub Fours : List ℕ → ℕ → ℕ → ℕ → ℕ → ℕ → Type 0
Fours t s second third y b =
    Sub y (beyond (beyond (beyond s)))
    × (b < 2 ^ 33)
    × ((c : ℕ) × (b ≡ min c (three_of t s 0 second third)) × (foldl (better_at 0 t s) c (down s (y + third + second)) ≡ min (2 ^ 33) (least_of (sums t s) (splits s))))

min_swap : (b c p q : ℕ) → b ≡ min c p → min b q ≡ min (min c q) p
min_swap b c p q e = omega arith

min_under : (k b b2 q : ℕ) → b < k → b2 ≡ min b q → b2 < k
min_under k b b2 q h e = omega arith

min_first : (k b p : ℕ) → b < k → b ≡ p → b ≡ min k p
min_first k b p h e = omega arith

min_last : (k b c p l : ℕ) → b < k → b ≡ min c p → min c p ≡ min k l → b ≡ l
min_last k b c p l h e f = omega arith

module _ (t : List ℕ) (s second third last : ℕ) (pos : 0 < s) (f : Leading s second third last) where
  -- the other parts are no larger than s
  pub fours_inside : (y : ℕ) → Sub y (beyond (beyond (beyond s))) → y + third + second ≤ s
  fours_inside y u =
      omega (arith, sub_le y (beyond (beyond (beyond s))) u, whole (beyond (beyond s)) f.more, whole (beyond s) f.some, beyond_lt s pos, f.is_second, f.is_third)

  three_more : (y c : ℕ) → Sub y (beyond (beyond (beyond s))) → foldl (better_at 0 t s) c (down s (y + third + second)) ≡ foldl (better_at 0 t s) (min c (three_of t s y second third)) (down s y)
  three_more y c u =
      let k = fours_inside y u in
      let e : down s (y + third + second) ≡ (s - (y + third + second)) ∷ ((s - (y + third)) ∷ ((s - (y + second)) ∷ down s y)) = rw (f.is_second, f.is_third) (down_three s pos f.some f.more y u) in
      ap (foldl (better_at 0 t s) c) e
      ∙ fold_three t s c (y + third + second) (y + third) (y + second) (down s y) k (omega arith) (omega arith)

  one_more : (y c : ℕ) → 0 < y → Sub y (beyond (beyond (beyond s))) → foldl (better_at 0 t s) c (down s y) ≡ foldl (better_at 0 t s) (min c (apart t s y)) (down s (bit_and (y - 1) (beyond (beyond (beyond s))) + third + second))
  one_more y c h u =
      let k = fours_inside y u in
      let e : down s y ≡ (s - y) ∷ down s (bit_and (y - 1) (beyond (beyond (beyond s))) + third + second) = rw (f.is_second, f.is_third) (down_one s pos f.some f.more y h u) in
      ap (foldl (better_at 0 t s) c) e
      ∙ ap (λ (v : ℕ). foldl (better_at 0 t s) v (down s (bit_and (y - 1) (beyond (beyond (beyond s))) + third + second))) (better_apart t s c y (omega arith))

  pub fours_start : (b : ℕ) → b < 2 ^ 33 → b ≡ three_of t s 0 second third → Fours t s second third last b
  fours_start b small e =
      let w : last + third + second ≡ beyond s = omega (arith, whole (beyond (beyond s)) f.more, whole (beyond s) f.some, f.is_second, f.is_third, f.is_last) in (
        subst (λ (x : ℕ). Sub x (beyond (beyond (beyond s)))) (sym f.is_last) (and_self (beyond (beyond (beyond s)))),
        small,
        (
          2 ^ 33,
          min_first (2 ^ 33) b (three_of t s 0 second third) small e,
          ap (foldl (better_at 0 t s) (2 ^ 33)) (ap (down s) w ∙ sym (splits_rest s pos) ∙ splits_first s pos f.some)
              ∙ fold_least 0 t s (2 ^ 33) (s - beyond s) (down s (beyond (beyond s)))
              ∙ ap (min (2 ^ 33)) (zero-add (least_of (sums t s) ((s - beyond s) ∷ down s (beyond (beyond s)))))
              ∙ ap (λ (l : List ℕ). min (2 ^ 33) (least_of (sums t s) l)) (sym (splits_first s pos f.some)),
        ),
      )

  pub fours_turn : (y b b2 z : ℕ) → Fours t s second third y b → 0 < y → z ≡ bit_and (y - 1) last → b2 ≡ min b (min (three_of t s y second third) (apart t s y)) → Fours t s second third z b2
  fours_turn y b b2 z i h ez eb =
      let c : ℕ = i.2.0 in
      let e3 : ℕ = three_of t s y second third in
      let e1 : ℕ = apart t s y in
      let g : z ≡ bit_and (y - 1) (beyond (beyond (beyond s))) = ez ∙ ap (bit_and (y - 1)) f.is_last in (
        subst (λ (x : ℕ). Sub x (beyond (beyond (beyond s)))) (sym g) (sub_and (beyond (beyond (beyond s))) (y - 1)),
        min_under (2 ^ 33) b b2 (min e3 e1) i.1 eb,
        (
          min c (min e3 e1),
          eb ∙ min_swap b c (three_of t s 0 second third) (min e3 e1) i.2.1,
          ap₂ (λ (v x : ℕ). foldl (better_at 0 t s) v (down s (x + third + second))) (sym (min_assoc c e3 e1)) g
              ∙ sym (three_more y c i.0 ∙ one_more y (min c e3) h i.0)
              ∙ i.2.2,
        ),
      )

  pub fours_end : (y b : ℕ) → Fours t s second third y b → y ≡ 0 → b ≡ least_of (sums t s) (splits s)
  unfolding down
  fours_end y b i e =
      let c : ℕ = i.2.0 in
      let u : Sub 0 (beyond (beyond (beyond s))) = subst (λ (x : ℕ). Sub x (beyond (beyond (beyond s)))) e i.0 in
      let g : min c (three_of t s 0 second third) ≡ min (2 ^ 33) (least_of (sums t s) (splits s)) =
      sym (three_more 0 c u) ∙ ap (λ (x : ℕ). foldl (better_at 0 t s) c (down s (x + third + second))) (sym e) ∙ i.2.2 in
      min_last (2 ^ 33) b c (three_of t s 0 second third) (least_of (sums t s) (splits s)) i.1 i.2.1 g

-- what the code calls `rest`, `more` and `last`
pub leading : (s rest more last : ℕ) → rest ≡ beyond s → 0 < rest → more ≡ beyond rest → 0 < more → last ≡ beyond more → Leading s (rest - more) (more - last) last
leading s rest more last er hr em hm el =
    let e : more ≡ beyond (beyond s) = em ∙ ap beyond er in
    let h : 0 < beyond s = omega (arith, er) in
    let k : 0 < beyond (beyond s) = omega (arith, e) in
    let f : last ≡ beyond (beyond (beyond s)) = el ∙ ap beyond e in
    record {
      some = h;
      more = k;
      is_second = omega (arith, er, e, whole (beyond s) h);
      is_third = omega (arith, e, f, whole (beyond (beyond s)) k);
      is_last = f;
    }

-- one split
pub one_split : (t : List ℕ) (s r : ℕ) → 0 < s → 0 < beyond s → beyond (beyond s) ≡ 0 → r ≡ apart t s (beyond s) → r ≡ least_of (sums t s) (splits s)
unfolding down least_of
one_split t s r pos more e er =
    let w : s - (s - beyond s) ≡ beyond s = omega (arith, beyond_lt s pos) in
    er ∙ ap (λ (x : ℕ). get_or t (s - beyond s) 0 + get_or t x 0) (sym w) ∙ ap (least_of (sums t s)) (sym (splits_first s pos more ∙ ap (λ (x : ℕ). (s - beyond s) ∷ down s x) e))

-- ---- all splits of s
pub all_none : (w : ℕ) (t : List ℕ) (s v : ℕ) → 0 < s → beyond s ≡ 0 → v ≡ foldl (better_at w t s) v (splits s)
unfolding down
all_none w t s v pos e = sym (ap (foldl (better_at w t s) v) (splits_rest s pos ∙ ap (down s) e))

pub all_least : (w : ℕ) (t : List ℕ) (s v : ℕ) → 0 < s → 0 < beyond s → foldl (better_at w t s) v (splits s) ≡ min v (w + least_of (sums t s) (splits s))
all_least w t s v pos more =
    let e = splits_first s pos more in
    ap (foldl (better_at w t s) v) e ∙ fold_least w t s v (s - beyond s) (down s (beyond (beyond s))) ∙ ap (λ (l : List ℕ). min v (w + least_of (sums t s) l)) (sym e)
