-- No joining order has a smaller sum of diameters than the finished table says, the kept splits have that sum, and so NO zero-skew tree is shorter than theirs.
use mathlib.Core.Path.{◌≡◌, refl, sym, ap, subst, ◌∙◌}
use mathlib.Core.Logic.{◌⊎◌, inl, inr}
use mathlib.Core.List.{List, ◌++◌}
use Prim.Native.Nat.{ℕ, zero, suc, ◌+◌, ◌-◌, ◌*◌, ◌/◌, ◌%◌, ◌^◌, ◌≤◌, ◌<◌}
use native.Mathlib.Nat.{le_refl, le_trans}
use native.Mathlib.Decide.{dec_lt}
use native.Mathlib.Omega.{arith}
use lib.Count.{ones}
use lib.ListN.{get_or}
use lib.Pow.{pow_mono, pow_pos}
use Rattle.zero_skew.specs.Plane.{Sinks}
use Rattle.zero_skew.specs.Box.{diameter}
use Rattle.zero_skew.specs.Tree.{Tree, count, wire, ZeroSkew}
use Rattle.zero_skew.specs.Order.{Order, one, both, sinks_of, sums, order, Over, halves}
use Rattle.zero_skew.proofs.Count.{count_append}
use Rattle.zero_skew.proofs.LeastForOrder.{half_units, order-sinks, order-sums}
use Rattle.subsets.specs.Kept.{kept_in, kept_order, kept_part}
use Rattle.subsets.specs.Subsets.{diam, lowest, splits}
use Rattle.subsets.specs.Table.{blank_of}
use Rattle.subsets.proofs.Bellman.{best_is_kept, best_le, least_le, small_blank}
use Rattle.subsets.proofs.Bits.{bit, bit_all, bit_high, bit_pow, bit_rest, bits_low}
use Rattle.subsets.proofs.Digits.{Sub, low_le, ones_low, self_lt, sub_rest}
use Rattle.subsets.proofs.Finished.{Finished}
use Rattle.subsets.proofs.KeptParts.{Part, kept_part_lem, ones_pos}
use Rattle.subsets.proofs.Masks.{Once, diam_listed, listed_diam, lowest_in, mask, mask_bit, mask_some, masks_apart, once_l, once_r, ones_single, over_all, over_once, part_of, sub_sum}
use Rattle.subsets.proofs.Numbering.{order_small, order_step}

single : (s : ℕ) → 0 < s → ones s < 2 → 2 ^ lowest s ≡ s
single s h o = go (s - 2 ^ lowest s) refl
  where
    go : (r : ℕ) → s - 2 ^ lowest s ≡ r → 2 ^ lowest s ≡ s
    go zero e = omega (arith, low_le s s h (self_lt s))
    go (suc r) e = absurd (omega (arith, ones_low s s h (self_lt s), ones_pos (s - 2 ^ lowest s) (omega arith)))

module _ (s : Sinks) (few : s.n ≤ 12) (t : List ℕ) (done : Finished (diam s) (2 ^ s.n) t) where
  room : 2 ^ s.n ≤ 2 ^ 12
  room = pow_mono few

  entry_single : (m : ℕ) → 0 < m → m < 2 ^ s.n → ones m < 2 → get_or t m 0 ≡ 0
  entry_single m h k o =
      let z : get_or t m 0 ≤ blank_of m = subst (λ (x : ℕ). x ≤ blank_of m) (sym (done.entry m h k)) (least_le (diam s m) t m (blank_of m) (splits m)) in
      omega (arith, z, small_blank (ones m) o)

  mask_low : (o : Order) → Once o → ((i : ℕ) → s.n ≤ i → count i (sinks_of o) ≡ 0) → mask o < 2 ^ s.n
  mask_low o once none = bits_low s.n (mask o) (λ i h. mask_bit o once i ∙ none i h)

  -- no order comes to less than the entry of its sinks
  under : (o : Order) → Once o → ((i : ℕ) → s.n ≤ i → count i (sinks_of o) ≡ 0) → get_or t (mask o) 0 ≤ sums s o
  unfolding mask sums sinks_of
  under (one i) once none = omega (arith, entry_single (2 ^ i) (pow_pos i) (mask_low (one i) once none) (omega (arith, ones_single i)))
  under (both l r) once none =
      let fits : mask l + mask r < 2 ^ s.n = mask_low (both l r) once none in
      go (under l (once_l l r once) (λ i h. omega (arith, none i h, count_append i (sinks_of l) (sinks_of r))))
      (under r (once_r l r once) (λ i h. omega (arith, none i h, count_append i (sinks_of l) (sinks_of r))))
      (diam_listed s (mask l + mask r) (sinks_of l ++ sinks_of r) (λ i. sym (mask_bit (both l r) once i)))
      fits
      (lowest_in (mask l + mask r) (mask l + mask r) (mask l) (omega (arith, mask_some l)) (self_lt (mask l + mask r)) (sub_sum (mask l) (mask r) (masks_apart l r once)))
    where
      go : get_or t (mask l) 0 ≤ sums s l → get_or t (mask r) 0 ≤ sums s r → diam s (mask l + mask r) ≤ diameter s (sinks_of l ++ sinks_of r) → mask l + mask r < 2 ^ s.n
          → (mask l / 2 ^ lowest (mask l + mask r) % 2 ≡ 1) ⊎ ((mask l + mask r - mask l) / 2 ^ lowest (mask l + mask r) % 2 ≡ 1)
          → get_or t (mask l + mask r) 0 ≤ diameter s (sinks_of l ++ sinks_of r) + sums s l + sums s r
      go il ir wid fits (inl v) =
          let e : mask l + mask r - mask l ≡ mask r = omega arith in
          omega (
            arith,
            best_le (diam s) (2 ^ s.n) t done (mask l + mask r) (mask l) fits (omega (arith, mask_some r)) (part_of (mask l + mask r) (mask l) (sub_sum (mask l) (mask r) (masks_apart l r once)) v),
            ap (λ (x : ℕ). get_or t x 0) e,
          )
      go il ir wid fits (inr v) =
          let e : mask l + mask r - mask l ≡ mask r = omega arith in
          let f : mask l + mask r - mask r ≡ mask l = omega arith in
          let u : Sub (mask r) (mask l + mask r) = subst (λ (x : ℕ). Sub x (mask l + mask r)) e (sub_rest (mask l + mask r) (mask l) (sub_sum (mask l) (mask r) (masks_apart l r once))) in
          omega (
            arith,
            best_le (diam s) (2 ^ s.n) t done (mask l + mask r) (mask r) fits (omega (arith, mask_some l)) (part_of (mask l + mask r) (mask r) u (ap (λ (x : ℕ). x / 2 ^ lowest (mask l + mask r) % 2) (sym e) ∙ v)),
            ap (λ (x : ℕ). get_or t x 0) f,
          )

  -- no order over all the sinks comes to less
  pub least_of_all : (o : Order) → Over s o → get_or t (2 ^ s.n - 1) 0 ≤ sums s o
  least_of_all o over = rw (← over_all s o over) (under o (over_once s o over) over.no_other)

  module _ (D : ℕ) (far : (m : ℕ) → diam s m ≤ D) (near : D ≤ 2 ^ 28) where
    -- the order of the kept splits of m is over the sinks of m, and comes to its entry
    Attains : ℕ → Order → Type 0
    Attains m o = ((i : ℕ) → count i (sinks_of o) ≡ bit i m) × (sums s o ≡ get_or t m 0)

    attained : (f m : ℕ) → m ≤ f → 0 < m → m < 2 ^ s.n → Attains m (kept_in (diam s) t f m)
    unfolding Attains sinks_of sums count
    attained zero m l h k = absurd (omega arith)
    attained (suc f) m l h k = go (λ x. attained f x) (dec_lt (ones m) 2)
      where
        go : ((x : ℕ) → x ≤ f → 0 < x → x < 2 ^ s.n → Attains x (kept_in (diam s) t f x)) → Dec (ones m < 2) → Attains m (kept_in (diam s) t (suc f) m)
        go ih (yes o) =
            let e : 2 ^ lowest m ≡ m = single m h o in
            subst (Attains m) (sym (order_small (diam s) t (suc f) m o)) (
              (λ i. let b = bit_pow i (lowest m) in omega (arith, b, ap (bit i) e)),
              sym (entry_single m h k o),
            )
        go ih (no o) =
            let o2 : 2 ≤ ones m = omega arith in
            let p : Part m (kept_part (diam s) t m) = kept_part_lem (diam s) t m h o2 in
            let x = ih (kept_part (diam s) t m) (omega (arith, p.1)) p.0 (omega (arith, p.1)) in
            let y = ih (m - kept_part (diam s) t m) (omega (arith, p.0)) (omega (arith, p.1)) (omega (arith, p.0)) in
            let L = sinks_of (kept_in (diam s) t f (kept_part (diam s) t m)) in
            let R = sinks_of (kept_in (diam s) t f (m - kept_part (diam s) t m)) in
            let bits : (i : ℕ) → count i (L ++ R) ≡ bit i m =
            λ i. count_append i L R ∙ omega (arith, x.0 i, y.0 i, bit_rest i m (kept_part (diam s) t m) p.2) in
            let none : (i : ℕ) → s.n ≤ i → count i (L ++ R) ≡ 0 = λ i g. bits i ∙ bit_high i m (le_trans k (pow_mono g)) in
            subst (Attains m) (sym (order_step (diam s) t f m o2)) (
              bits,
              omega (arith, diam_listed s m (L ++ R) bits, listed_diam s m (L ++ R) bits none, x.1, y.1, best_is_kept (diam s) (2 ^ s.n) t done D far room near m h k o2),
            )

    module _ (some : 0 < s.n) where
      whole : ℕ
      whole = 2 ^ s.n - 1

      kept : Attains whole (kept_order (diam s) t whole)
      unfolding whole
      kept = attained (2 ^ s.n - 1) (2 ^ s.n - 1) (le_refl (2 ^ s.n - 1)) (omega (arith, pow_mono {i = 1} {j = s.n} some)) (omega (arith, pow_pos s.n))

      -- the kept splits join every sink once
      pub kept_over : Over s (kept_order (diam s) t (2 ^ s.n - 1))
      unfolding Attains whole
      kept_over =
          record {
            once = λ i h. kept.0 i ∙ bit_all s.n i h;
            no_other = λ i h. kept.0 i ∙ bit_high i (2 ^ s.n - 1) (omega (arith, pow_pos s.n, pow_mono h));
          }

      -- and come to the entry of all sinks
      pub kept_sums : sums s (kept_order (diam s) t (2 ^ s.n - 1)) ≡ get_or t (2 ^ s.n - 1) 0
      unfolding Attains whole
      kept_sums = kept.1

      -- NO ZERO-SKEW TREE over the sinks, at whatever fineness k and with whatever joining, has less wire than the tree of the kept splits
      pub none_shorter : (k : ℕ) (g : Tree) → ZeroSkew s k g → k * halves s (kept_order (diam s) t (2 ^ s.n - 1)) ≤ 2 * wire g
      none_shorter k g z =
          half_units s (kept_order (diam s) t (2 ^ s.n - 1)) kept_over k g z
          (omega (arith, kept_sums, order-sums s g, least_of_all (order g) (record { once = λ i h. ap (count i) (order-sinks g) ∙ z.once i h; no_other = λ i h. ap (count i) (order-sinks g) ∙ z.no_other i h })))
