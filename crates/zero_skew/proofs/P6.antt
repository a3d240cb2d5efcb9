-- Document 01's example P6: three sinks on a line, joined 0 with 2 and then with 1. The second join has the diameter of the first, so the first's wire has no length;
-- the wire of sink 1 has 10 half units, though its place is 6 from the other segment: 4 are snaked.
-- 000's appendix A, case 2, gives such a wire the length of the distance; its section II.B gives it the difference of the paths, 10, and that is what balances.
use mathlib.Core.Path.{◌≡◌, refl}
use Prim.Native.Nat.{ℕ, zero, suc}
use lib.IntN.{pos}
use Rattle.zero_skew.specs.Plane.{Place, Sinks}
use Rattle.zero_skew.specs.Box.{greatest, least, diameter}
use Rattle.zero_skew.specs.Order.{one, both, sinks_of}
use Rattle.zero_skew.specs.Region.{between, distance}
use Rattle.zero_skew.specs.DeferredMerge.{sink, merge, ms, wired}

abbrev line : ℕ → Place
line zero = record { x = pos 0; y = pos 0 }
line (suc zero) = record { x = pos 2; y = pos 0 }
line (suc (suc i)) = record { x = pos 10; y = pos 0 }

abbrev three : Sinks
three = record { n = 3; at = line; wait = λ i. 0 }

pub p6 : wired three (both (both (one 0) (one 2)) (one 1)) ≡ merge 0 (merge 10 (sink 0) 10 (sink 2)) 10 (sink 1)
unfolding wired diameter greatest least sinks_of
p6 = refl

pub p6_apart : distance (ms three (merge 10 (sink 0) 10 (sink 2))) (ms three (sink 1)) ≡ 6
unfolding distance between ms
p6_apart = refl
