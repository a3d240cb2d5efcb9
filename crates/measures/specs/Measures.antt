-- The three measures, each counted from a far corner (grid from -32,000,000, tilted from -64,000,000, doubled from -128,000,000). For the code alone, but for `unlifted`, by which a box is read as numbers with sign.
use Rattle.std.specs.Prelude.{◌≡◌, ℕ, suc, ◌+◌, ◌-◌, ◌*◌, min, max, ℤ, pos, negsuc, ◌+ℤ◌}
use Rattle.std.proofs.Math.IntN.{sub_ℕ}
use Rattle.measures.specs.declared.measure.Grid.{Grid}
use Rattle.measures.specs.declared.measure.Tilted.{Tilted}
use Rattle.measures.specs.declared.measure.Doubled.{Doubled}

-- n is z, counted from c below 0
abbrev pub Lifts : ℕ → ℤ → ℕ → Type 0
Lifts c z n = z +ℤ pos c ≡ pos n

-- a grid coordinate, counted from its corner
abbrev pub lift : ℤ → ℕ
lift (pos n) = n + 32000000
lift (negsuc n) = 32000000 - suc n

-- a tilted and a doubled coordinate with sign
abbrev pub unlifted : ℕ → ℤ
unlifted n = sub_ℕ n 64000000

abbrev pub lowered : ℕ → ℤ
lowered n = sub_ℕ n 128000000

-- the doubled coordinate that a number with sign stands for
abbrev pub raised : ℤ → Doubled
raised (pos n) = record { 0 = n + 128000000 }
raised (negsuc n) = record { 0 = 128000000 - suc n }

-- the tilted coordinate that a number stands for
abbrev pub kept_as : ℕ → Tilted
kept_as n = record { 0 = n }

abbrev pub grid_of : ℤ → Grid
grid_of x = record { 0 = lift x }

abbrev pub u_of : Grid → Grid → Tilted
u_of x y = record { 0 = x.0 + y.0 }

abbrev pub v_of : Grid → Grid → Tilted
v_of x y = record { 0 = (64000000 + x.0) - y.0 }

-- a tilted coordinate, w lower and w higher
abbrev pub less_of : Tilted → ℕ → Tilted
less_of a w = record { 0 = a.0 - w }

abbrev pub more_of : Tilted → ℕ → Tilted
more_of a w = record { 0 = a.0 + w }

abbrev pub least_of : Tilted → Tilted → Tilted
least_of a b = record { 0 = min a.0 b.0 }

abbrev pub greatest_of : Tilted → Tilted → Tilted
greatest_of a b = record { 0 = max a.0 b.0 }

-- how far two numbers are apart
abbrev pub gap : ℕ → ℕ → ℕ
gap a b = (a - b) + (b - a)

-- the ends of a segment, from the greatest and from the least value of a box
abbrev pub low_of : Tilted → ℕ → Doubled
low_of hi d = record { 0 = 2 * hi.0 - d }

abbrev pub high_of : Tilted → ℕ → Doubled
high_of lo d = record { 0 = 2 * lo.0 + d }

-- the value from lo to hi that is nearest to p
abbrev pub near_of : Doubled → Doubled → Doubled → Doubled
near_of lo hi p = record { 0 = max lo.0 (min hi.0 p.0) }
