-- Document 01, "Numbers of this trade": places, sinks, tilted and doubled coordinates, distances. Coordinates are whole numbers with sign.
use Rattle.std.specs.Prelude.{ℕ, ◌+◌, max, ℤ, pos, ◌+ℤ◌, ◌-ℤ◌, ◌*ℤ◌, nat_abs}

-- a place of the plane
pub record Place : Type 0 where
  pub x : ℤ
  pub y : ℤ

-- the Manhattan distance of two places
abbrev pub dist : Place → Place → ℕ
dist p q = nat_abs (p.x -ℤ q.x) + nat_abs (p.y -ℤ q.y)

-- a place, counted in units of 1/k grid unit
abbrev pub scaled : ℕ → Place → Place
scaled k p = record { x = pos k *ℤ p.x; y = pos k *ℤ p.y }

-- "Sinks are 0 to n-1 in input order." Sink i stands at `at i`, and its own delay is `wait i` grid units; document 01's sinks have none.
pub record Sinks : Type 0 where
  pub n : ℕ
  pub at : ℕ → Place
  pub wait : ℕ → ℕ

-- "Tilted coordinates of a sink: u = x + y, v = x - y."
abbrev pub u : Sinks → ℕ → ℤ
u s i = (s.at i).x +ℤ (s.at i).y

abbrev pub v : Sinks → ℕ → ℤ
v s i = (s.at i).x -ℤ (s.at i).y

-- "A place is stored doubled: U = 2u, V = 2v."
abbrev pub twice : ℤ → ℤ
twice z = z +ℤ z

-- "Plane position in quarters of a grid unit: U + V for x, U - V for y."
abbrev pub quarters : ℤ → ℤ → Place
quarters U V' = record { x = U +ℤ V'; y = U -ℤ V' }

-- "Distance of two doubled places: the larger of the two absolute differences."
abbrev pub away : ℤ → ℤ → ℤ → ℤ → ℕ
away U V' U₂ V₂ = max (nat_abs (U -ℤ U₂)) (nat_abs (V' -ℤ V₂))
