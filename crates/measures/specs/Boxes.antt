-- For the code alone: boxes in lifted numbers.
use Rattle.std.specs.Prelude.{List, [], ◌∷◌, ℕ, ◌≤◌, max, ℤ, get_or}
use Rattle.measures.specs.declared.measure.Tilted.{Tilted}
use Rattle.measures.specs.declared.boxes.Box.{Box}
use Rattle.measures.specs.Measures.{kept_as, grid_of, u_of, v_of, less_of, more_of, least_of, greatest_of, gap}

-- what stands in a list of boxes where none is put yet
abbrev pub blank : Box
blank = record { lu = kept_as 0; hu = kept_as 0; lv = kept_as 0; hv = kept_as 0 }

-- the box that reaches w to each side of u and v
abbrev pub around_box : Tilted → Tilted → ℕ → Box
around_box u v w = record { lu = less_of u w; hu = more_of u w; lv = less_of v w; hv = more_of v w }

-- the box of one sink
abbrev pub sink_box : ℤ → ℤ → ℕ → Box
sink_box x y w = around_box (u_of (grid_of x) (grid_of y)) (v_of (grid_of x) (grid_of y)) w

-- the box of two sets together
abbrev pub hull_of : Box → Box → Box
hull_of a b =
    record {
      lu = least_of a.lu b.lu;
      hu = greatest_of a.hu b.hu;
      lv = least_of a.lv b.lv;
      hv = greatest_of a.hv b.hv;
    }

-- the larger of the two widths
unfoldable pub diam_of : Box → ℕ
diam_of b = max (gap b.hu.0 b.lu.0) (gap b.hv.0 b.lv.0)

-- no least end is above its greatest
abbrev pub InOrder : Box → Type 0
InOrder b = (b.lu.0 ≤ b.hu.0) × (b.lv.0 ≤ b.hv.0)

-- a box as four numbers in memory, and the box that four numbers stand for
abbrev pub numbers_of : Box → List ℕ
numbers_of b = b.lu.0 ∷ b.hu.0 ∷ b.lv.0 ∷ b.hv.0 ∷ []

abbrev pub box_in : List ℕ → Box
box_in n = record { lu = kept_as (get_or n 0 0); hu = kept_as (get_or n 1 0); lv = kept_as (get_or n 2 0); hv = kept_as (get_or n 3 0) }

-- a box of sinks that the code's numbers hold: no end is further than 14,000,000 from 0
pub record Fair (b : Box) : Type 0 where
  pub u_low : 50000000 ≤ b.lu.0
  pub u_up : b.lu.0 ≤ b.hu.0
  pub u_high : b.hu.0 ≤ 78000000
  pub v_low : 50000000 ≤ b.lv.0
  pub v_up : b.lv.0 ≤ b.hv.0
  pub v_high : b.hv.0 ≤ 78000000
