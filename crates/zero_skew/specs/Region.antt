-- Document 002, section I: tilted rectangular regions, in doubled tilted coordinates, so that all ends are whole and a distance counts half grid units.
use Rattle.std.specs.Prelude.{◌≡◌, ◌⊎◌, cond, ℕ, max, ℤ, pos, ◌+ℤ◌, ◌-ℤ◌, ◌*ℤ◌, nat_abs, ◌≤ℤ◌}
use Rattle.std.specs.Int.Signed.{le_z}
use Rattle.zero_skew.specs.Box.{larger, smaller}

-- what lies from lo to hi along one axis
pub record Range : Type 0 where
  pub lo : ℤ
  pub hi : ℤ

-- a tilted rectangle: a range along each tilted axis
pub record Region : Type 0 where
  pub along_u : Range
  pub along_v : Range

-- the value z is in a range
pub record In (r : Range) (z : ℤ) : Type 0 where
  pub from_lo : r.lo ≤ℤ z
  pub upto_hi : z ≤ℤ r.hi

-- the place U, V' is in a region
pub record Inside (a : Region) (U V' : ℤ) : Type 0 where
  pub by_u : In a.along_u U
  pub by_v : In a.along_v V'

-- a region that is not empty
pub record Some (a : Region) : Type 0 where
  pub some_u : a.along_u.lo ≤ℤ a.along_u.hi
  pub some_v : a.along_v.lo ≤ℤ a.along_v.hi

-- "A Manhattan arc is defined to be a line segment, possibly of zero length, with slope +1 or -1": along one tilted axis, a single value.
pub record Arc (a : Region) : Type 0 where
  pub some : Some a
  pub thin : (a.along_u.lo ≡ a.along_u.hi) ⊎ (a.along_v.lo ≡ a.along_v.hi)

-- one place by itself
abbrev pub spot : ℤ → ℤ → Region
spot U V' = record { along_u = record { lo = U; hi = U }; along_v = record { lo = V'; hi = V' } }

-- "The collection of points within a fixed distance of a Manhattan arc is called a tilted rectangular region, or TRR": by its radius and its core.
abbrev pub grown : ℕ → Range → Range
grown radius r = record { lo = r.lo -ℤ pos radius; hi = r.hi +ℤ pos radius }

abbrev pub trr : ℕ → Region → Region
trr radius core = record { along_u = grown radius core.along_u; along_v = grown radius core.along_v }

-- what two regions have in common
abbrev pub common : Range → Range → Range
common r t = record { lo = larger r.lo t.lo; hi = smaller r.hi t.hi }

infixr 6 ◌∩◌
abbrev pub ◌∩◌ : Region → Region → Region
a ∩ b = record { along_u = common a.along_u b.along_u; along_v = common a.along_v b.along_v }

-- how far b lies beyond a (0 where it does not)
abbrev pub beyond : ℤ → ℤ → ℕ
beyond a b = cond (le_z a b) (nat_abs (b -ℤ a)) 0

-- the distance of two ranges: the gap between them (0 where they meet)
unfoldable pub between : Range → Range → ℕ
between r t = max (beyond r.hi t.lo) (beyond t.hi r.lo)

-- the distance of two regions: the larger of the gaps along the two axes
unfoldable pub distance : Region → Region → ℕ
distance a b = max (between a.along_u b.along_u) (between a.along_v b.along_v)

-- a region, counted in units k times as fine
abbrev pub fine : ℕ → Range → Range
fine k r = record { lo = pos k *ℤ r.lo; hi = pos k *ℤ r.hi }

abbrev pub finer : ℕ → Region → Region
finer k a = record { along_u = fine k a.along_u; along_v = fine k a.along_v }
