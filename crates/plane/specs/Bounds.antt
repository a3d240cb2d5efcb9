-- The box of all sinks, and a held box that is widened by one more sink.
use Rattle.std.specs.Prelude.{◌≡◌, ◌&&◌, not, List, ℕ, zero, suc, ℤ, pos, ◌+ℤ◌, ◌-ℤ◌, length, get_or, Some, Result, Ok, Err}
use Rattle.lists.specs.Grow.{up_to}
use Rattle.zero_skew.specs.Box.{Bounds, box_of, hull}
use Rattle.measures.specs.declared.boxes.Box.{Box}
use Rattle.plane.specs.declared.bounds.Extent.{Extent}
use Rattle.plane.specs.declared.refusal.Refusal.{Refusal}
use Rattle.measures.specs.Range.{in_range, late}
use Rattle.plane.specs.Refusals.{Checked, refusal, refuse_if}
use Rattle.plane.specs.Said.{Said, refused_by, after, told}
use Rattle.plane.specs.Said.Said.{answered}
use Rattle.plane.specs.Sinks.{sinks_at, check_sinks}
use Rattle.measures.specs.Measures.{unlifted}

-- what a box holds, as numbers with sign
abbrev pub bounds : Box → Bounds
bounds b =
    record { least_u = unlifted b.lu.0; greatest_u = unlifted b.hu.0; least_v = unlifted b.lv.0; greatest_v = unlifted b.hv.0 }

abbrev pub bounds_in : Extent → Bounds
bounds_in e = record { least_u = e.least_u; greatest_u = e.greatest_u; least_v = e.least_v; greatest_v = e.greatest_v }

-- what an answer with a box says: the numbers that it holds, or a refusal's number and place
abbrev pub seen : Result Box Refusal → Said Bounds
seen (Ok b) = answered (bounds b)
seen (Err r) = refused_by r

-- "a box worked out from all sinks"
unfoldable pub box_answer : List ℤ → List ℤ → List ℕ → Said Bounds
box_answer xs ys delays = after (check_sinks 512 xs ys delays) (box_of (sinks_at xs ys delays) (up_to (length xs)))

-- the box of one sink at x and y with the delay w: "from u - w to u + w and v - w to v + w"
abbrev pub sink_bounds : ℤ → ℤ → ℕ → Bounds
sink_bounds x y w =
    record {
      least_u = (x +ℤ y) -ℤ pos w;
      greatest_u = (x +ℤ y) +ℤ pos w;
      least_v = (x -ℤ y) -ℤ pos w;
      greatest_v = (x -ℤ y) +ℤ pos w;
    }

-- "a box already held is widened by one more sink; a sink outside its range is refused with 4, place 0, and the held box stays as it is"; then 15, place 0, for its delay
abbrev pub verdict : ℤ → ℤ → ℕ → Checked
verdict x y w = refuse_if (not (in_range x && in_range y)) (refusal 4 (Some 0)) (refuse_if (late w) (refusal 15 (Some 0)) (Ok tt))

-- a box that is held, and what it becomes where a check is passed
abbrev pub held_after : Checked → Bounds → Bounds → Bounds
held_after (Ok u) held wider = wider
held_after (Err r) held wider = held

abbrev pub widened_by : Bounds → ℤ → ℤ → ℕ → Bounds
widened_by b x y w = held_after (verdict x y w) b (hull b (sink_bounds x y w))

-- the held box and the sink, then the box after it and what is said
pub record Widens (b : Bounds) (x y : ℤ) (w : ℕ) (held : Bounds) (said : Said (Unit {0})) : Type 0 where
  pub holds : held ≡ widened_by b x y w
  pub says : said ≡ told (verdict x y w)

-- the box of sink 0, widened by sinks 1 to k in turn
unfoldable pub in_turn : List ℤ → List ℤ → List ℕ → ℕ → Bounds
in_turn xs ys delays zero = sink_bounds (get_or xs 0 (pos 0)) (get_or ys 0 (pos 0)) (get_or delays 0 0)
in_turn xs ys delays (suc k) = widened_by (in_turn xs ys delays k) (get_or xs (suc k) (pos 0)) (get_or ys (suc k) (pos 0)) (get_or delays (suc k) 0)
