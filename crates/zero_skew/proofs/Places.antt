-- Doubled places: their distance is the Manhattan distance in half units, and a position in quarters is exact.
use mathlib.Core.Path.{◌≡◌}
use Prim.Native.Nat.{ℕ, ◌*◌}
use native.Mathlib.Omega.{arith}
use lib.IntN.{ℤ, pos, ◌+ℤ◌, ◌-ℤ◌, ◌*ℤ◌, nat_abs}
use Rattle.zero_skew.specs.Plane.{Sinks, dist, scaled, u, v, twice, quarters, away}
use Rattle.zero_skew.proofs.Whole.{add_is, minus_is, times_up, times_down, same, turned, tilt, abs-minus}

-- two places on the grid of quarters are as many half units apart as their doubled coordinates say
pub doubled_distance : (a b c d : ℤ) → dist (quarters a b) (quarters c d) ≡ 2 * away a b c d
doubled_distance a b c d = turned a c b d

module _ (s : Sinks) where
  -- four quarters a grid unit, and nothing is rounded
  pub quarters_exact : (i : ℕ) → quarters (twice (u s i)) (twice (v s i)) ≡ scaled 4 (s.at i)
  quarters_exact i = λ k. record { x = px k; y = py k }
    where
      px : twice (u s i) +ℤ twice (v s i) ≡ pos 4 *ℤ (s.at i).x
      px = same (twice (u s i) +ℤ twice (v s i)) (pos 4 *ℤ (s.at i).x)
          (omega (
            arith,
            add_is (twice (u s i)) (twice (v s i)),
            add_is (u s i) (u s i),
            add_is (v s i) (v s i),
            add_is (s.at i).x (s.at i).y,
            minus_is (s.at i).x (s.at i).y,
            times_up 4 (s.at i).x,
            times_down 4 (s.at i).x,
          ))

      py : twice (u s i) -ℤ twice (v s i) ≡ pos 4 *ℤ (s.at i).y
      py = same (twice (u s i) -ℤ twice (v s i)) (pos 4 *ℤ (s.at i).y)
          (omega (
            arith,
            minus_is (twice (u s i)) (twice (v s i)),
            add_is (u s i) (u s i),
            add_is (v s i) (v s i),
            add_is (s.at i).x (s.at i).y,
            minus_is (s.at i).x (s.at i).y,
            times_up 4 (s.at i).y,
            times_down 4 (s.at i).y,
          ))

  doubled_gap : (a b : ℤ) → nat_abs (twice a -ℤ twice b) ≡ 2 * nat_abs (a -ℤ b)
  doubled_gap a b = rw (abs-minus (twice a) (twice b), abs-minus a b) (omega (arith, add_is a a, add_is b b))

  -- the doubled places of two sinks are their Manhattan distance apart, in half units
  pub sink-distance : (i j : ℕ) → away (twice (u s i)) (twice (v s i)) (twice (u s j)) (twice (v s j)) ≡ 2 * dist (s.at i) (s.at j)
  sink-distance i j =
      rw (doubled_gap (u s i) (u s j), doubled_gap (v s i) (v s j))
      (omega (arith, tilt (s.at i).x (s.at j).x (s.at i).y (s.at j).y))
