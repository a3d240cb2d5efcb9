-- Document 01: "Each has whole x and y from -1,000,000 to 1,000,000, in grid units." Document 02, Q-7: "A sink gets a delay w, a whole number of grid units from 0 to 1,000,000".
use Rattle.std.specs.Prelude.{Bool, false, ◌&&◌, ℕ, ◌≤◌, T, eqb, ltb, ℤ, pos, negsuc, neg_ℤ}
use Rattle.std.specs.Int.Signed.{le_z}

-- x is from -m to m
abbrev pub nearby : ℕ → ℤ → Bool
nearby m x = le_z (neg_ℤ (pos m)) x && le_z x (pos m)

-- x may be the coordinate of a sink
abbrev pub in_range : ℤ → Bool
in_range x = nearby 1000000 x

-- no sink may have the delay w
abbrev pub late : ℕ → Bool
late w = ltb 1000000 w

-- for the code alone: the coordinates and the delays that its numbers hold. They are more than a call lets in, so that a tree over places counted in half units can be built by the same code.
abbrev pub Central : ℤ → Type 0
Central x = T (nearby 4000000 x)

abbrev pub Brief : ℕ → Type 0
Brief w = w ≤ 6000000

-- two whole numbers are equal
abbrev pub equal : ℤ → ℤ → Bool
equal (pos a) (pos b) = eqb a b
equal (pos a) (negsuc b) = false
equal (negsuc a) (pos b) = false
equal (negsuc a) (negsuc b) = eqb a b
