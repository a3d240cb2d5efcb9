-- Every U and V of an accepted order fits 32 bits with sign, and no wire is longer than the largest diameter: so a tree file holds them.
use mathlib.Core.List.{List, [], ◌∷◌}
use Prim.Native.Nat.{ℕ, ◌-◌, ◌*◌, ◌≤◌, ◌<◌}
use native.Mathlib.Omega.{arith}
use lib.Dec.{ltb}
use lib.IntN.{ℤ, pos, negsuc, ◌+ℤ◌, ◌-ℤ◌}
use lib.ListN.{length, get_or}
use mir.Syntax.{w32}
use mir.Val.{SFits}
use Rattle.lists.specs.Grow.{tab}
use Rattle.lists.proofs.Tests.{choice}
use Rattle.lists.proofs.Grow.{length-grow, get_d_tab}
use Rattle.zero_skew.specs.Plane.{Sinks, u, v}
use Rattle.zero_skew.specs.Box.{greatest, least, high, low, diameter}
use Rattle.zero_skew.specs.Region.{In}
use Rattle.zero_skew.specs.DeferredMerge.{range}
use Rattle.zero_skew.proofs.Whole.{add_is, minus_is, of_le}
use Rattle.zero_skew.proofs.Lemma1.{greatest_met, least_met}
use Rattle.zero_skew.proofs.Placed.{from_is, upto_is}
use Rattle.plane.proofs.Spread.{Within, Spread, diameter_spread}
use Rattle.orders.specs.Nodes.{below, parent, value, wire, places_u, places_v, wires}
use Rattle.orders.specs.Sound.{Ordered}
use Rattle.orders.proofs.Reaches.{in_segment}

within_fits : (z : ℤ) → Within 56000000 z → SFits w32 z
within_fits (pos n) w = record { sfits = omega (arith, w.under) }
within_fits (negsuc n) w = record { sfits = omega (arith, w.over) }

-- what holds by number holds of the entries of a list made by number
each_at : {A : Type 0} (P : A → Type 0) (g : ℕ → A) (m : ℕ) (a : A) → ((k : ℕ) → k < m → P (g k)) → (k : ℕ) → k < length (tab g m) → P (get_or (tab g m) k a)
each_at P g m a h k l =
    let n = rw (length-grow (λ l. g (length l)) m) at l in
    rw (get_d_tab g m k a n) (h k n)

-- ---- along one axis c, where each sink is from -8,000,000 to 8,000,000
module _ (s : Sinks) (r : Spread s 4000000 6000000) (c : ℕ → ℤ) (h : (i : ℕ) → Within 8000000 (c i)) where
  high_within : (l : List ℕ) → Within 14000000 (high s c l)
  unfolding greatest
  high_within [] = record { over = omega arith; under = omega arith }
  high_within (i ∷ l) =
      let (j, m, e) = greatest_met (λ k. c k +ℤ pos (s.wait k)) i l in
      let w = h j in
      let a = add_is (c j) (pos (s.wait j)) in
      rw e (record { over = omega (arith, w.over, r.w_in j); under = omega (arith, w.under, r.w_in j) })

  low_within : (l : List ℕ) → Within 14000000 (low s c l)
  unfolding least
  low_within [] = record { over = omega arith; under = omega arith }
  low_within (i ∷ l) =
      let (j, m, e) = least_met (λ k. c k -ℤ pos (s.wait k)) i l in
      let w = h j in
      let a = minus_is (c j) (pos (s.wait j)) in
      rw e (record { over = omega (arith, w.over, r.w_in j); under = omega (arith, w.under, r.w_in j) })

  -- what lies in a segment is from -56,000,000 to 56,000,000
  along_fits : (l : List ℕ) (z : ℤ) → In (range s c l) z → SFits w32 z
  along_fits l z on =
      let f = from_is (high s c l) (diameter s l) in
      let t = upto_is (low s c l) (diameter s l) in
      let b = diameter_spread r l in
      within_fits z (record {
        over = omega (arith, of_le _ z on.from_lo, (high_within l).over);
        under = omega (arith, of_le z _ on.upto_hi, (low_within l).under);
      })

module _ (s : Sinks) (r : Spread s 4000000 6000000) (js : List ℕ) (o : Ordered s.n js) where
  u_within : (i : ℕ) → Within 8000000 (u s i)
  u_within i =
      let x = r.x_in i in
      let y = r.y_in i in
      let a = add_is (s.at i).x (s.at i).y in
      record { over = omega (arith, x.over, y.over); under = omega (arith, x.under, y.under) }

  v_within : (i : ℕ) → Within 8000000 (v s i)
  v_within i =
      let x = r.x_in i in
      let y = r.y_in i in
      let a = minus_is (s.at i).x (s.at i).y in
      record { over = omega (arith, x.over, y.under); under = omega (arith, x.under, y.over) }

  -- THE LAWS, by node: U, V, and wires
  pub places_u_fit : (k : ℕ) → k < length (places_u s js) → SFits w32 (get_or (places_u s js) k (pos 0))
  places_u_fit =
      each_at (SFits w32) (value s (u s) js) (2 * s.n - 1) (pos 0)
      (λ k h. along_fits s r (u s) u_within (below s.n js k) _ (in_segment s js o k h).by_u)

  pub places_v_fit : (k : ℕ) → k < length (places_v s js) → SFits w32 (get_or (places_v s js) k (pos 0))
  places_v_fit =
      each_at (SFits w32) (value s (v s) js) (2 * s.n - 1) (pos 0)
      (λ k h. along_fits s r (v s) v_within (below s.n js k) _ (in_segment s js o k h).by_v)

  wire_bounded : (k : ℕ) → wire s js k ≤ 28000000
  wire_bounded k =
      let b = diameter_spread r (below s.n js (parent s.n js k)) in
      choice (λ w. w ≤ 28000000) (ltb k (2 * s.n - 2)) _ 0 (λ t. omega arith) (λ t. omega arith)

  pub wires_bounded : (k : ℕ) → k < length (wires s js) → get_or (wires s js) k 0 ≤ 28000000
  wires_bounded = each_at (λ w. w ≤ 28000000) (wire s js) (2 * s.n - 1) 0 (λ k h. wire_bounded k)
