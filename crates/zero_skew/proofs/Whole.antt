-- Whole numbers as differences of naturals: z is `up z` less `down z`. What is proved of sums, differences, magnitudes and the
-- order of whole numbers comes down to naturals, where omega works. All that this crate knows of ℤ is here.
use mathlib.Core.Path.{◌≡◌, refl, sym, ◌∙◌, ap}
use mathlib.Core.Logic.{◌⊎◌, inl, inr, ⊎_elim}
use mathlib.Core.Bool.{not}
use Prim.Native.Nat.{ℕ, zero, suc, ◌+◌, ◌-◌, ◌*◌, ◌≤◌, ◌<◌, max}
use native.Mathlib.Nat.{mul-zero, mul-add, mul-sub, le-max_left, le-max_right}
use native.Mathlib.Omega.{arith}
use lib.IntN.{ℤ, pos, negsuc, ◌+ℤ◌, ◌-ℤ◌, ◌*ℤ◌, neg_ℤ, nat_abs, sub_ℕ}
use lib.Signed.{le_z, ◌≤ℤ◌}
use lib.Dec.{T, ltb, ltb→lt, nltb→le, leb→le, le→leb, nleb→lt}
use Rattle.lists.proofs.Tests.{or_le, choice}
use Rattle.zero_skew.specs.Box.{larger, smaller}
use Rattle.zero_skew.specs.Segment.{nearest}

abbrev pub gap : ℕ → ℕ → ℕ
gap a b = (a - b) + (b - a)

abbrev pub up : ℤ → ℕ
up (pos n) = n
up (negsuc n) = 0

abbrev pub down : ℤ → ℕ
down (pos n) = 0
down (negsuc n) = suc n

-- ---- sums and differences
pub sub_is : (a b : ℕ) → up (sub_ℕ a b) + b ≡ down (sub_ℕ a b) + a
sub_is a b = choice (λ z. up z + b ≡ down z + a) (ltb a b) _ _
    (λ t. less (ltb→lt a b t)) (λ t. more (nltb→le a b t))
  where
    less : a < b → 0 + b ≡ suc (b - suc a) + a
    less h = omega arith

    more : b ≤ a → (a - b) + b ≡ 0 + a
    more h = omega arith

pub add_is : (a b : ℤ) → up (a +ℤ b) + (down a + down b) ≡ down (a +ℤ b) + (up a + up b)
add_is (pos a) (pos b) = omega arith
add_is (pos a) (negsuc b) = omega (arith, sub_is a (suc b))
add_is (negsuc a) (pos b) = omega (arith, sub_is b (suc a))
add_is (negsuc a) (negsuc b) = omega arith

pub neg_up : (a : ℤ) → up (neg_ℤ a) ≡ down a
neg_up (pos zero) = refl
neg_up (pos (suc a)) = refl
neg_up (negsuc a) = refl

pub neg_down : (a : ℤ) → down (neg_ℤ a) ≡ up a
neg_down (pos zero) = refl
neg_down (pos (suc a)) = refl
neg_down (negsuc a) = refl

pub minus_is : (a b : ℤ) → up (a -ℤ b) + (down a + up b) ≡ down (a -ℤ b) + (up a + down b)
minus_is a b = omega (arith, add_is a (neg_ℤ b), neg_up b, neg_down b)

-- ---- magnitudes
pub abs_is : (z : ℤ) → nat_abs z ≡ gap (up z) (down z)
abs_is (pos a) = omega arith
abs_is (negsuc a) = omega arith

pub same_gap : (a b c d : ℕ) → a + d ≡ b + c → gap a b ≡ gap c d
same_gap a b c d h = omega arith

pub abs-minus : (a b : ℤ) → nat_abs (a -ℤ b) ≡ gap (up a + down b) (up b + down a)
abs-minus a b = abs_is (a -ℤ b) ∙ same_gap (up (a -ℤ b)) (down (a -ℤ b)) (up a + down b) (up b + down a) (omega (arith, minus_is a b))

gap_far : (a b c d e f : ℕ) → gap (a + f) (e + b) ≤ gap (a + d) (c + b) + gap (c + f) (e + d)
gap_far a b c d e f = omega arith

pub far : (a b c : ℤ) → nat_abs (a -ℤ c) ≤ nat_abs (a -ℤ b) + nat_abs (b -ℤ c)
far a b c = rw (abs-minus a c, abs-minus a b, abs-minus b c) (gap_far (up a) (down a) (up b) (down b) (up c) (down c))

pub abs_swap : (a b : ℤ) → nat_abs (a -ℤ b) ≡ nat_abs (b -ℤ a)
abs_swap a b = rw (abs-minus a b, abs-minus b a) (omega arith)

-- ---- products
pub times_up : (k : ℕ) (a : ℤ) → up (pos k *ℤ a) ≡ k * up a
times_up k (pos a) = refl
times_up k (negsuc a) = neg_up (pos (k * suc a)) ∙ sym (mul-zero k)

pub times_down : (k : ℕ) (a : ℤ) → down (pos k *ℤ a) ≡ k * down a
times_down k (pos a) = sym (mul-zero k)
times_down k (negsuc a) = neg_down (pos (k * suc a))

times_gap : (k a b : ℕ) → k * gap a b ≡ gap (k * a) (k * b)
times_gap k a b = mul-add k (a - b) (b - a) ∙ (rw (mul-sub k a b, mul-sub k b a))

pub times_abs : (k : ℕ) (a b : ℤ) → nat_abs (pos k *ℤ a -ℤ pos k *ℤ b) ≡ k * nat_abs (a -ℤ b)
times_abs k a b =
    rw (abs-minus (pos k *ℤ a) (pos k *ℤ b), abs-minus a b, times_up k a, times_up k b, times_down k a, times_down k b, times_gap)
    (rw (mul-add k (up a) (down b), mul-add k (up b) (down a)))

-- ---- the tilt: the larger of the two tilted differences is the sum of the two plain ones
max_of : (m g h : ℕ) → g ≤ m → h ≤ m → (m ≤ g) ⊎ (m ≤ h) → max g h ≡ m
max_of m g h p q (inl r) = omega arith
max_of m g h p q (inr r) = omega arith

gap_sum : (a b c d : ℕ) → gap (a + c) (b + d) ≤ gap a b + gap c d
gap_sum a b c d = omega arith

gap_cross : (a b c d : ℕ) → gap (a + d) (b + c) ≤ gap a b + gap c d
gap_cross a b c d = omega arith

-- the two gaps add up where they point the same way, and across where they do not
gap_met : (a b c d : ℕ) → (gap a b + gap c d ≤ gap (a + c) (b + d)) ⊎ (gap a b + gap c d ≤ gap (a + d) (b + c))
gap_met a b c d =
    ⊎_elim
    (λ p. ⊎_elim (λ q. inl (omega arith)) (λ q. inr (omega arith)) (or_le c d))
    (λ p. ⊎_elim (λ q. inr (omega arith)) (λ q. inl (omega arith)) (or_le c d))
    (or_le a b)

gap_tilt : (a b c d : ℕ) → max (gap (a + c) (b + d)) (gap (a + d) (b + c)) ≡ gap a b + gap c d
gap_tilt a b c d = max_of _ _ _ (gap_sum a b c d) (gap_cross a b c d) (gap_met a b c d)

-- the tilted differences, by naturals
plus_gap : (a b c d : ℤ) → nat_abs ((a +ℤ c) -ℤ (b +ℤ d)) ≡ gap ((up a + down b) + (up c + down d)) ((up b + down a) + (up d + down c))
plus_gap a b c d = abs-minus (a +ℤ c) (b +ℤ d) ∙ same_gap _ _ _ _ (omega (arith, add_is a c, add_is b d))

cross_gap : (a b c d : ℤ) → nat_abs ((a -ℤ c) -ℤ (b -ℤ d)) ≡ gap ((up a + down b) + (up d + down c)) ((up b + down a) + (up c + down d))
cross_gap a b c d = abs-minus (a -ℤ c) (b -ℤ d) ∙ same_gap _ _ _ _ (omega (arith, minus_is a c, minus_is b d))

pub tilt : (a b c d : ℤ) → max (nat_abs ((a +ℤ c) -ℤ (b +ℤ d))) (nat_abs ((a -ℤ c) -ℤ (b -ℤ d))) ≡ nat_abs (a -ℤ b) + nat_abs (c -ℤ d)
tilt a b c d =
    rw (plus_gap a b c d, cross_gap a b c d, abs-minus a b, abs-minus c d)
    (gap_tilt (up a + down b) (up b + down a) (up c + down d) (up d + down c))

-- the other way round: the sum of the two tilted differences is twice the larger of the two plain ones
gap_over_l : (a b c d : ℕ) → 2 * gap a b ≤ gap (a + c) (b + d) + gap (a + d) (b + c)
gap_over_l a b c d = omega arith

gap_over_r : (a b c d : ℕ) → 2 * gap c d ≤ gap (a + c) (b + d) + gap (a + d) (b + c)
gap_over_r a b c d = omega arith

gap_ends : (a b g : ℕ) → gap a b ≤ g → (a ≤ b + g) × (b ≤ a + g)
gap_ends a b g h = omega arith

both_ends : (a b c d g : ℕ) → a ≤ b + g → b ≤ a + g → c ≤ d + g → d ≤ c + g → gap (a + c) (b + d) + gap (a + d) (b + c) ≤ 2 * g
both_ends a b c d g p q r t = omega arith

both_gaps : (a b c d g : ℕ) → gap a b ≤ g → gap c d ≤ g → gap (a + c) (b + d) + gap (a + d) (b + c) ≤ 2 * g
both_gaps a b c d g p q =
    let ab = gap_ends a b g p in let cd = gap_ends c d g q in both_ends a b c d g ab.0 ab.1 cd.0 cd.1

turned_of : (g h t : ℕ) → 2 * g ≤ t → 2 * h ≤ t → t ≤ 2 * max g h → t ≡ 2 * max g h
turned_of g h t p q r = omega arith

gap_turned : (a b c d : ℕ) → gap (a + c) (b + d) + gap (a + d) (b + c) ≡ 2 * max (gap a b) (gap c d)
gap_turned a b c d =
    turned_of (gap a b) (gap c d) _ (gap_over_l a b c d) (gap_over_r a b c d) (both_gaps a b c d _ (le-max_left _ _) (le-max_right _ _))

pub turned : (a b c d : ℤ) → nat_abs ((a +ℤ c) -ℤ (b +ℤ d)) + nat_abs ((a -ℤ c) -ℤ (b -ℤ d)) ≡ 2 * max (nat_abs (a -ℤ b)) (nat_abs (c -ℤ d))
turned a b c d =
    rw (plus_gap a b c d, cross_gap a b c d, abs-minus a b, abs-minus c d)
    (gap_turned (up a + down b) (up b + down a) (up c + down d) (up d + down c))

-- ---- the order, and what is between the ends of a range
infix 4 ◌⊑◌
abbrev pub ◌⊑◌ : ℤ → ℤ → Type 0
a ⊑ b = up a + down b ≤ up b + down a

pub le_z_yes : (a b : ℤ) → T (le_z a b) → a ⊑ b
le_z_yes (pos a) (pos b) t = omega (arith, leb→le a b t)
le_z_yes (pos a) (negsuc b) t = absurd t
le_z_yes (negsuc a) (pos b) t = omega arith
le_z_yes (negsuc a) (negsuc b) t = omega (arith, leb→le b a t)

pub le_z_no : (a b : ℤ) → T (not (le_z a b)) → b ⊑ a
le_z_no (pos a) (pos b) t = omega (arith, nleb→lt a b t)
le_z_no (pos a) (negsuc b) t = omega arith
le_z_no (negsuc a) (pos b) t = absurd t
le_z_no (negsuc a) (negsuc b) t = omega (arith, nleb→lt b a t)

pub larger_l : (a b : ℤ) → a ⊑ larger a b
larger_l a b = choice (λ z. a ⊑ z) (le_z a b) b a (λ t. le_z_yes a b t) (λ t. omega arith)

pub larger_r : (a b : ℤ) → b ⊑ larger a b
larger_r a b = choice (λ z. b ⊑ z) (le_z a b) b a (λ t. omega arith) (λ t. le_z_no a b t)

pub larger_one : (a b : ℤ) → (larger a b ≡ a) ⊎ (larger a b ≡ b)
larger_one a b = choice (λ z. (z ≡ a) ⊎ (z ≡ b)) (le_z a b) b a (λ t. inr refl) (λ t. inl refl)

pub smaller_l : (a b : ℤ) → smaller a b ⊑ a
smaller_l a b = choice (λ z. z ⊑ a) (le_z a b) a b (λ t. omega arith) (λ t. le_z_no a b t)

pub smaller_r : (a b : ℤ) → smaller a b ⊑ b
smaller_r a b = choice (λ z. z ⊑ b) (le_z a b) a b (λ t. le_z_yes a b t) (λ t. omega arith)

pub smaller_one : (a b : ℤ) → (smaller a b ≡ a) ⊎ (smaller a b ≡ b)
smaller_one a b = choice (λ z. (z ≡ a) ⊎ (z ≡ b)) (le_z a b) a b (λ t. inl refl) (λ t. inr refl)

-- two ends, each moved out by so much, are at most so much further apart
pub moved_out : (a b : ℤ) (m n : ℕ) → nat_abs ((a +ℤ pos m) -ℤ (b -ℤ pos n)) ≤ nat_abs (a -ℤ b) + (m + n)
moved_out a b m n = rw (abs-minus (a +ℤ pos m) (b -ℤ pos n), abs-minus a b) (omega (arith, add_is a (pos m), minus_is b (pos n)))

-- two points that, moved out either way, lie in a range from low to high
pub in_range_lem : (a b low high : ℤ) (m n : ℕ) → a +ℤ pos m ⊑ high → b +ℤ pos n ⊑ high → low ⊑ a -ℤ pos m → low ⊑ b -ℤ pos n → nat_abs (a -ℤ b) + (m + n) ≤ nat_abs (high -ℤ low)
in_range_lem a b low high m n ah bh la lb =
    rw (abs-minus a b, abs-minus high low) (omega (arith, add_is a (pos m), add_is b (pos n), minus_is a (pos m), minus_is b (pos n)))

-- ---- two whole numbers are equal where their differences are
pub same : (a b : ℤ) → up a + down b ≡ up b + down a → a ≡ b
same (pos a) (pos b) h = ap pos (omega arith)
same (pos a) (negsuc b) h = absurd (omega arith)
same (negsuc a) (pos b) h = absurd (omega arith)
same (negsuc a) (negsuc b) h = ap negsuc (omega arith)

le_z_of : (a b : ℤ) → a ⊑ b → T (le_z a b)
le_z_of (pos a) (pos b) h = le→leb a b (omega arith)
le_z_of (pos a) (negsuc b) h = absurd (omega arith)
le_z_of (negsuc a) (pos b) h = tt
le_z_of (negsuc a) (negsuc b) h = le→leb b a (omega arith)

pub to_le : (a b : ℤ) → a ⊑ b → a ≤ℤ b
to_le a b h = record { le = le_z_of a b h }

pub of_le : (a b : ℤ) → a ≤ℤ b → a ⊑ b
of_le a b h = le_z_yes a b h.le

pub antisym : (a b : ℤ) → a ⊑ b → b ⊑ a → a ≡ b
antisym a b p q = same a b (omega arith)

-- a bound of both that one of them reaches
pub larger_is : (a b z : ℤ) → a ⊑ z → b ⊑ z → (z ⊑ a) ⊎ (z ⊑ b) → larger a b ≡ z
larger_is a b z p q e =
    antisym (larger a b) z
    (⊎_elim (λ d. rw d p) (λ d. rw d q) (larger_one a b))
    (⊎_elim (λ d. omega (arith, larger_l a b)) (λ d. omega (arith, larger_r a b)) e)

pub smaller_is : (a b z : ℤ) → z ⊑ a → z ⊑ b → (a ⊑ z) ⊎ (b ⊑ z) → smaller a b ≡ z
smaller_is a b z p q e =
    antisym (smaller a b) z
    (⊎_elim (λ d. omega (arith, smaller_l a b)) (λ d. omega (arith, smaller_r a b)) e)
    (⊎_elim (λ d. rw d p) (λ d. rw d q) (smaller_one a b))

-- ---- the nearest value of a range
pub nearest_in : (a b z : ℤ) → a ⊑ b → (a ⊑ nearest a b z) × (nearest a b z ⊑ b)
nearest_in a b z ab = (
  larger_l a (smaller b z),
  ⊎_elim (λ e. rw e ab) (λ e. rw e (smaller_l b z)) (larger_one a (smaller b z)),
)

pub nearest_gap : (a b z : ℤ) (g : ℕ) → up a + down z ≤ (up z + down a) + g → up z + down b ≤ (up b + down z) + g → nat_abs (z -ℤ nearest a b z) ≤ g
nearest_gap a b z g under over = rw (abs-minus z (nearest a b z))
    (⊎_elim
    (λ e. ⊎_elim (λ d. omega (arith, ap up e, ap down e, ap up d, ap down d, larger_r a (smaller b z))) (λ d. omega (arith, ap up e, ap down e, ap up d, ap down d, larger_r a (smaller b z))) (smaller_one b z))
    (λ e. ⊎_elim (λ d. omega (arith, ap up (e ∙ d), ap down (e ∙ d), ap up d, ap down d, smaller_r b z)) (λ d. omega (arith, ap up (e ∙ d), ap down (e ∙ d))) (smaller_one b z))
    (larger_one a (smaller b z)))

-- two places, by their doubled tilted coordinates
pub quarters_near : (a b c d : ℤ) (g : ℕ) → nat_abs (a -ℤ b) ≤ g → nat_abs (c -ℤ d) ≤ g → nat_abs ((a +ℤ c) -ℤ (b +ℤ d)) + nat_abs ((a -ℤ c) -ℤ (b -ℤ d)) ≤ 2 * g
quarters_near a b c d g p q = rw (turned a b c d) (omega arith)
