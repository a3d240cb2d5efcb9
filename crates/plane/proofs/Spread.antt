-- Sinks whose coordinates are from -m to m and whose delays are from 0 to w: how long a diameter can be.
use mathlib.Core.Logic.{⊎_elim}
use mathlib.Core.List.{List, [], ◌∷◌}
use Prim.Native.Nat.{ℕ, ◌+◌, ◌*◌, ◌≤◌, ◌<◌}
use native.Mathlib.Omega.{arith}
use lib.Dec.{T}
use lib.IntN.{ℤ, pos, ◌-ℤ◌, nat_abs}
use lib.ListN.{length, get_or, get_or-eq_default}
use Rattle.lists.proofs.Tests.{or_lt}
use Rattle.zero_skew.specs.Plane.{Sinks}
use Rattle.zero_skew.specs.Box.{diameter, apart}
use Rattle.zero_skew.proofs.Whole.{up, down, abs-minus}
use Rattle.zero_skew.proofs.Lemma1.{diam_met, diam_none}
use Rattle.measures.specs.Range.{Central, in_range}
use Rattle.measures.specs.Measures.{lift}
use Rattle.plane.specs.Sinks.{sinks_at, Ranged, Fitting}
use Rattle.measures.proofs.Numbers.{lifted, lift_range, nearer, lift_inner}
use Rattle.measures.proofs.Lifted.{lifts}
use Rattle.plane.proofs.Checks.{in_both}

-- z is from -m to m
pub record Within (m : ℕ) (z : ℤ) : Type 0 where
  pub over : down z ≤ up z + m
  pub under : up z ≤ down z + m

pub record Spread (s : Sinks) (m w : ℕ) : Type 0 where
  pub x_in : (i : ℕ) → Within m (s.at i).x
  pub y_in : (i : ℕ) → Within m (s.at i).y
  pub w_in : (i : ℕ) → s.wait i ≤ w

near : (m : ℕ) (a b : ℤ) → Within m a → Within m b → nat_abs (a -ℤ b) ≤ 2 * m
near m a b p q = rw (abs-minus a b) (omega (arith, p.over, p.under, q.over, q.under))

pub far : {s : Sinks} {m w : ℕ} → Spread s m w → (i j : ℕ) → apart s i j ≤ 4 * m + (s.wait i + s.wait j)
far {s} {m} {w} r i j =
    omega (
      arith,
      near m (s.at i).x (s.at j).x (r.x_in i) (r.x_in j),
      near m (s.at i).y (s.at j).y (r.y_in i) (r.y_in j),
    )

pub diameter_spread : {s : Sinks} {m w : ℕ} → Spread s m w → (l : List ℕ) → diameter s l ≤ 4 * m + 2 * w
diameter_spread {s} {m} {w} r [] = rw (diam_none s) (omega arith)
diameter_spread {s} {m} {w} r (h ∷ l) = let (i, j, _, _, e) = diam_met s h l in rw e (omega (arith, far r i j, r.w_in i, r.w_in j))

-- ---- the sinks of a call, and those that the code's numbers hold. One that is not there stands at 0, 0
within_none : (m : ℕ) → Within m (pos 0)
within_none m = record { over = omega arith; under = omega arith }

within_wide : (x : ℤ) → Central x → Within 4000000 x
within_wide x t =
    let r = lift_range x t in
    let l = lifts 32000000 x (lift x) (lifted x t) in
    record { over = omega arith; under = omega arith }

within_range : (x : ℤ) → T (in_range x) → Within 1000000 x
within_range x t =
    let r = lift_inner x t in
    let l = lifts 32000000 x (lift x) (lifted x (nearer x t)) in
    record { over = omega arith; under = omega arith }

each_within : (m : ℕ) (xs : List ℤ) → ((i : ℕ) → i < length xs → Within m (get_or xs i (pos 0))) → (i : ℕ) → Within m (get_or xs i (pos 0))
each_within m xs h i = ⊎_elim (λ l. h i l) (λ l. rw (get_or-eq_default xs (pos 0) {n = i} l) (within_none m)) (or_lt i (length xs))

pub fitting_spread : {xs ys : List ℤ} {delays : List ℕ} → Fitting xs ys delays → Spread (sinks_at xs ys delays) 4000000 6000000
fitting_spread {xs} {ys} {delays} f =
    record {
      x_in = each_within 4000000 xs (λ i h. within_wide (get_or xs i (pos 0)) (f.near_x i h));
      y_in = each_within 4000000 ys (λ i h. within_wide (get_or ys i (pos 0)) (f.near_y i (omega (arith, f.alike))));
      w_in = f.brief;
    }

-- where no delay is above w
pub ranged_spread : {xs ys : List ℤ} {delays : List ℕ} (w : ℕ) → ((i : ℕ) → get_or delays i 0 ≤ w) → Ranged xs ys delays → Spread (sinks_at xs ys delays) 1000000 w
ranged_spread {xs} {ys} {delays} w early r =
    record {
      x_in = each_within 1000000 xs (λ i h. within_range (get_or xs i (pos 0)) (in_both xs ys delays r i h).0);
      y_in = each_within 1000000 ys (λ i h. within_range (get_or ys i (pos 0)) (in_both xs ys delays r i (omega (arith, r.alike))).1);
      w_in = early;
    }
