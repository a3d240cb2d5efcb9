-- Document 02, Q-1: sinks on one place. "Equal places are accepted .., with distance 0 and diameter 0"; with delays (Q-7), where all have the same, with a sink's own diameter.
use mathlib.Core.Path.{◌≡◌, ap}
use mathlib.Core.List.{List, [], ◌∷◌, Memᴰ}
use Prim.Native.Nat.{ℕ, ◌+◌, ◌*◌, ◌<◌}
use native.Mathlib.Omega.{arith}
use lib.ListN.{length}
use Rattle.zero_skew.specs.Plane.{Place, Sinks, dist}
use Rattle.zero_skew.specs.Box.{diameter, apart}
use Rattle.zero_skew.proofs.Distance.{dist_self}
use Rattle.zero_skew.proofs.Lemma1.{diam_met}

module _ (s : Sinks) where
  -- two sinks on one place are no further apart than their own delays
  pub together : (i j : ℕ) → s.at i ≡ s.at j → apart s i j ≡ s.wait i + s.wait j
  together i j e = omega (arith, ap (λ (p : Place). dist p (s.at j)) e, dist_self (s.at j))

  -- a set of sinks that stand on one place and have the delay w
  pub record Gathered (w : ℕ) (l : List ℕ) : Type 0 where
    pub same : (i j : ℕ) → Memᴰ i l → Memᴰ j l → s.at i ≡ s.at j
    pub even : (i : ℕ) → Memᴰ i l → s.wait i ≡ w

  pub gathered_diameter : (w : ℕ) (l : List ℕ) → 0 < length l → Gathered w l → diameter s l ≡ 2 * w
  gathered_diameter w [] some g = absurd (omega arith)
  gathered_diameter w (h ∷ l) some g =
      let (i, j, mi, mj, e) = diam_met s h l in
      omega (arith, e, together i j (g.same i j mi mj), g.even i mi, g.even j mj)
