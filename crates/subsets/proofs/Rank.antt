-- How many subsets of r are smaller than x.
use mathlib.Core.Path.{◌≡◌, refl, sym, ap, subst, ◌∙◌}
use mathlib.Core.Logic.{◌⊎◌, inl, inr, ⊎_elim}
use Prim.Native.Nat.{ℕ, zero, suc, ◌+◌, ◌-◌, ◌*◌, ◌/◌, ◌%◌, ◌^◌, ◌<◌}
use native.Mathlib.Nat.{zero-add}
use native.Mathlib.Numerals.{one-add}
use native.Mathlib.Omega.{arith}
use lib.Bits.{bit_and, and_step}
use lib.Count.{ones, ones_step}
use Rattle.subsets.proofs.Digits.{Sub, parity, sub_digit, sub_half, sub_le}

abbrev grow : ℕ → ℕ → ℕ → ℕ
grow zero b k = k
grow (suc z) b k = 2 * k + b

unfoldable pub rank : ℕ → ℕ → ℕ → ℕ
rank zero r x = 0
rank (suc d) r x = grow (r % 2) (x % 2) (rank d (r / 2) (x / 2))

rank_even : (d r x : ℕ) → r % 2 ≡ 0 → rank (suc d) r x ≡ rank d (r / 2) (x / 2)
unfolding rank
rank_even d r x e = ap (λ (b : ℕ). grow b (x % 2) (rank d (r / 2) (x / 2))) e

rank_odd : (d r x : ℕ) → r % 2 ≡ 1 → rank (suc d) r x ≡ 2 * rank d (r / 2) (x / 2) + x % 2
unfolding rank
rank_odd d r x e = ap (λ (b : ℕ). grow b (x % 2) (rank d (r / 2) (x / 2))) e

pub rank_zero : (d r : ℕ) → rank d r 0 ≡ 0
unfolding rank
rank_zero zero r = refl
rank_zero (suc d) r = ⊎_elim (λ e. rank_even d r 0 e ∙ rank_zero d (r / 2)) (λ e. omega (arith, rank_odd d r 0 e, rank_zero d (r / 2))) (parity r)

pub rank_self : (d r : ℕ) → r < 2 ^ d → suc (rank d r r) ≡ 2 ^ ones r
rank_self zero r k = unfold rank ones in (let z : r ≡ 0 = omega arith in ap (λ (x : ℕ). 2 ^ ones x) (sym z))
rank_self (suc d) r k =
    ⊎_elim
    (λ e. omega (arith, rank_even d r r e, rank_self d (r / 2) ((let e : r / 2 < 2 ^ d = omega arith in e)), ap (λ (x : ℕ). 2 ^ x) (ones_step r ∙ ap (λ (x : ℕ). x + ones (r / 2)) e ∙ zero-add (ones (r / 2)))))
    (λ e. omega (arith, rank_odd d r r e, rank_self d (r / 2) ((let e : r / 2 < 2 ^ d = omega arith in e)), ap (λ (x : ℕ). 2 ^ x) (ones_step r ∙ ap (λ (x : ℕ). x + ones (r / 2)) e ∙ one-add (ones (r / 2)))))
    (parity r)

pub rank_next : (d r x : ℕ) → Sub x r → 0 < x → r < 2 ^ d → rank d r x ≡ suc (rank d r (bit_and (x - 1) r))
rank_next zero r x u h k = absurd (omega (arith, sub_le x r u))
rank_next (suc d) r x u h k = go (rank_next d (r / 2) (x / 2) (sub_half x r u)) (parity r) (parity x)
  where
    y : ℕ
    y = bit_and (x - 1) r

    go : (0 < x / 2 → r / 2 < 2 ^ d → rank d (r / 2) (x / 2) ≡ suc (rank d (r / 2) (bit_and (x / 2 - 1) (r / 2)))) → (r % 2 ≡ 0) ⊎ (r % 2 ≡ 1) → (x % 2 ≡ 0) ⊎ (x % 2 ≡ 1) → rank (suc d) r x ≡ suc (rank (suc d) r y)
    go ih er (inr ex) =
        let p : x / 2 ≡ (x - 1) / 2 = omega arith in
        let q : bit_and ((x - 1) / 2) (r / 2) ≡ (x - 1) / 2 = subst (λ (z : ℕ). Sub z (r / 2)) p (sub_half x r u) in
        let e1 : x / 2 ≡ y / 2 = omega (arith, and_step (x - 1) r) in
        let e2 : y % 2 ≡ 0 = omega (arith, and_step (x - 1) r) in
        let o : r % 2 ≡ 1 = omega (arith, sub_digit x r u) in
        omega (arith, rank_odd d r x o, rank_odd d r y o, ap (rank d (r / 2)) e1)
    go ih (inl er) (inl ex) =
        let p : (x - 1) / 2 ≡ x / 2 - 1 = omega arith in
        let q : bit_and ((x - 1) / 2) (r / 2) ≡ bit_and (x / 2 - 1) (r / 2) = ap (λ (z : ℕ). bit_and z (r / 2)) p in
        let e1 : bit_and (x / 2 - 1) (r / 2) ≡ y / 2 = omega (arith, and_step (x - 1) r) in
        omega (arith, rank_even d r x er, rank_even d r y er, ih (omega arith) ((let e : r / 2 < 2 ^ d = omega arith in e)), ap (rank d (r / 2)) e1)
    go ih (inr er) (inl ex) =
        let p : (x - 1) / 2 ≡ x / 2 - 1 = omega arith in
        let q : bit_and ((x - 1) / 2) (r / 2) ≡ bit_and (x / 2 - 1) (r / 2) = ap (λ (z : ℕ). bit_and z (r / 2)) p in
        let e1 : bit_and (x / 2 - 1) (r / 2) ≡ y / 2 = omega (arith, and_step (x - 1) r) in
        let e2 : y % 2 ≡ 1 = omega (arith, and_step (x - 1) r) in
        omega (arith, rank_odd d r x er, rank_odd d r y er, ih (omega arith) ((let e : r / 2 < 2 ^ d = omega arith in e)), ap (rank d (r / 2)) e1)
