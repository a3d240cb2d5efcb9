-- For the code alone: the places that nodes take in their segments, in lifted numbers.
use Rattle.measures.specs.declared.boxes.Box.{Box}
use Rattle.measures.specs.declared.segment.Spot.{Spot}
use Rattle.measures.specs.Measures.{low_of, high_of, near_of}
use Rattle.measures.specs.Boxes.{diam_of}

-- the least place of a box's segment
abbrev pub root_of : Box → Spot
root_of b = record { u = low_of b.hu (diam_of b); v = low_of b.hv (diam_of b) }

-- the place of a box's segment that is nearest to p on each axis
abbrev pub nearest_of : Box → Spot → Spot
nearest_of b p =
    record {
      u = near_of (low_of b.hu (diam_of b)) (high_of b.lu (diam_of b)) p.u;
      v = near_of (low_of b.hv (diam_of b)) (high_of b.lv (diam_of b)) p.v;
    }
