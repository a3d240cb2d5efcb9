-- Document 02, Q-7: rows of the table for pins with their own delay, and for refusal 15. Each is worked out by hand beside it.
use Rattle.std.specs.Prelude.{true, false, List, [], ◌∷◌, ◌++◌, pos, negsuc, replicate}
use Rattle.plane.specs.Said.Said.{answered, refused}
use Rattle.std.specs.Prelude.{None, Some}
use Rattle.examples.specs.Calls.Call.{box, widen, embed, join, search}
use Rattle.examples.specs.Calls.Outcome.{boxed, widened, embedded, joined, searched}
use Rattle.examples.specs.Example.{Row}

unfoldable pub delayed : List Row
delayed =
    -- one sink with delay 7: its box is u from -9 to 5 and v from 1 to 15, so d is 14, and U = 2·5 - 14, V = 2·15 - 14; total 0 + 14 - 14
    record {
      call = search (pos 3 ∷ []) (negsuc 4 ∷ []) (7 ∷ []) 0 2;
      gives = searched (answered (record { total = 0; steps = 0; proven = true })) (0 ∷ 0 ∷ []) [] (negsuc 3 ∷ []) (pos 16 ∷ []) (0 ∷ []);
    }
    -- two sinks at x = 0 and 10 with delays 3 and 1: u from -3 to 3 and from 9 to 11, d = 11 - (-3) = 14; root 2·11 - 14 = 8; wires 14 - 6 and 14 - 2; total 14 + 14 - 8.
    -- paths plus delays: 8 + 6 and 12 + 2
    ∷ record {
      call = embed (pos 0 ∷ pos 10 ∷ []) (pos 0 ∷ pos 0 ∷ []) (3 ∷ 1 ∷ []) (0 ∷ 1 ∷ []) 7;
      gives = embedded (answered 20) (pos 0 ∷ pos 20 ∷ pos 8 ∷ []) (pos 0 ∷ pos 20 ∷ pos 8 ∷ []) (8 ∷ 12 ∷ 0 ∷ []);
    }
    -- a sink whose box swallows the other: delay 10 at x = 0, so u from -10 to 10 holds 3; d = 20 is its own, its wire is 0, and the root stands on it; total 20 + 20 - 20.
    -- The other's wire of 20 snakes over a distance of 6
    ∷ record {
      call = embed (pos 0 ∷ pos 3 ∷ []) (pos 0 ∷ pos 0 ∷ []) (10 ∷ 0 ∷ []) (0 ∷ 1 ∷ []) 7;
      gives = embedded (answered 20) (pos 0 ∷ pos 6 ∷ pos 0 ∷ []) (pos 0 ∷ pos 6 ∷ pos 0 ∷ []) (0 ∷ 20 ∷ 0 ∷ []);
    }
    -- equal delays change no place and no wire, only d: case P3 with delay 5 has d = 14 for 4, and total 14 + 14 - 20
    ∷ record {
      call = embed (pos 0 ∷ pos 4 ∷ []) (pos 0 ∷ pos 0 ∷ []) (5 ∷ 5 ∷ []) (0 ∷ 1 ∷ []) 7;
      gives = embedded (answered 8) (pos 0 ∷ pos 8 ∷ pos 4 ∷ []) (pos 0 ∷ pos 8 ∷ pos 4 ∷ []) (4 ∷ 4 ∷ 0 ∷ []);
    }
    -- corners of the plane with the largest delays: v from -3,000,000 to 3,000,000, so d = 6,000,000 for both joins; total 3 · 6,000,000 - 6,000,000
    ∷ record {
      call = embed (negsuc 999999 ∷ pos 1000000 ∷ pos 1000000 ∷ []) (pos 1000000 ∷ negsuc 999999 ∷ pos 1000000 ∷ []) (1000000 ∷ 1000000 ∷ 1000000 ∷ []) (0 ∷ 1 ∷ 2 ∷ 3 ∷ []) 7;
      gives = embedded (answered 12000000) (pos 0 ∷ pos 0 ∷ pos 4000000 ∷ pos 0 ∷ pos 0 ∷ []) (negsuc 3999999 ∷ pos 4000000 ∷ pos 0 ∷ pos 0 ∷ pos 0 ∷ []) (4000000 ∷ 4000000 ∷ 4000000 ∷ 0 ∷ 0 ∷ []);
    }
    -- joining: x = 0, 4, 6, and sink 2 delayed by 5. Unions: 0 and 1 have 4; 0 and 2 have 6 + 5 = 11; 1 and 2 have 2·5 = 10, for 2 + 5 is less: so 0 and 1 come first, where 1 and 2 would without the delay
    ∷ record {
      call = join (pos 0 ∷ pos 4 ∷ pos 6 ∷ []) (pos 0 ∷ pos 0 ∷ pos 0 ∷ []) (0 ∷ 0 ∷ 5 ∷ []) 6;
      gives = joined (answered tt) (0 ∷ 1 ∷ 2 ∷ 3 ∷ []);
    }
    -- the same sinks searched: subsets 3, 5, 6 hold 4, 11, 10; of all, d = 11 and the least sum is 4, of part 3: 15. Total 15 + 11 - 10.
    -- Root 2·11 - 11; node 3 from 2·4 - 4; wires 4, 4, 11 - 10, 11 - 4
    ∷ record {
      call = search (pos 0 ∷ pos 4 ∷ pos 6 ∷ []) (pos 0 ∷ pos 0 ∷ pos 0 ∷ []) (0 ∷ 0 ∷ 5 ∷ []) 6 8;
      gives = searched (answered (record { total = 16; steps = 6; proven = true })) (0 ∷ 0 ∷ 0 ∷ 4 ∷ 0 ∷ 11 ∷ 10 ∷ 15 ∷ []) (0 ∷ 1 ∷ 3 ∷ 2 ∷ []) (pos 0 ∷ pos 8 ∷ pos 12 ∷ pos 4 ∷ pos 11 ∷ []) (pos 0 ∷ pos 8 ∷ pos 12 ∷ pos 4 ∷ pos 11 ∷ []) (4 ∷ 4 ∷ 1 ∷ 7 ∷ 0 ∷ []);
    }
    -- case D with sink 3 delayed by 3: pairs with it have 14, 10, 7, triples 18, 21, 13. Of all, d = 14; sums by rising parts: 13, 11, 17, 10, 17, 18, 21. The least, 10, is of part 7, so sink 3 is joined last.
    -- Total 24 + 14 - 6
    ∷ record {
      call = search (pos 0 ∷ pos 4 ∷ pos 7 ∷ pos 11 ∷ []) (pos 0 ∷ pos 0 ∷ pos 0 ∷ pos 0 ∷ []) (0 ∷ 0 ∷ 0 ∷ 3 ∷ []) 25 16;
      gives = searched (answered (record { total = 32; steps = 25; proven = true })) (0 ∷ 0 ∷ 0 ∷ 4 ∷ 0 ∷ 7 ∷ 3 ∷ 10 ∷ 0 ∷ 14 ∷ 10 ∷ 18 ∷ 7 ∷ 21 ∷ 13 ∷ 24 ∷ []) (1 ∷ 2 ∷ 0 ∷ 4 ∷ 5 ∷ 3 ∷ []) (pos 0 ∷ pos 8 ∷ pos 14 ∷ pos 22 ∷ pos 11 ∷ pos 7 ∷ pos 14 ∷ []) (pos 0 ∷ pos 8 ∷ pos 14 ∷ pos 22 ∷ pos 11 ∷ pos 7 ∷ pos 14 ∷ []) (7 ∷ 3 ∷ 3 ∷ 8 ∷ 4 ∷ 7 ∷ 0 ∷ []);
    }
    -- one step below F(4): the same table, unproven, with the tree of joining by least diameter: 1 and 2 (3), then 0 and 4 (7; sinks 2 and 3 have 7 too, but 2 is gone), then 3 and 5
    ∷ record {
      call = search (pos 0 ∷ pos 4 ∷ pos 7 ∷ pos 11 ∷ []) (pos 0 ∷ pos 0 ∷ pos 0 ∷ pos 0 ∷ []) (0 ∷ 0 ∷ 0 ∷ 3 ∷ []) 24 16;
      gives = searched (answered (record { total = 32; steps = 24; proven = false })) (0 ∷ 0 ∷ 0 ∷ 4 ∷ 0 ∷ 7 ∷ 3 ∷ 10 ∷ 0 ∷ 14 ∷ 10 ∷ 18 ∷ 7 ∷ 21 ∷ 13 ∷ 24 ∷ []) (1 ∷ 2 ∷ 0 ∷ 4 ∷ 3 ∷ 5 ∷ []) (pos 0 ∷ pos 8 ∷ pos 14 ∷ pos 22 ∷ pos 11 ∷ pos 7 ∷ pos 14 ∷ []) (pos 0 ∷ pos 8 ∷ pos 14 ∷ pos 22 ∷ pos 11 ∷ pos 7 ∷ pos 14 ∷ []) (7 ∷ 3 ∷ 3 ∷ 8 ∷ 4 ∷ 7 ∷ 0 ∷ []);
    }
    -- a delay of 1,000,000 is accepted
    ∷ record {
      call = embed (pos 0 ∷ []) (pos 0 ∷ []) (1000000 ∷ []) [] 7;
      gives = embedded (answered 0) (pos 0 ∷ []) (pos 0 ∷ []) (0 ∷ []);
    }
    -- 15: 1,000,001 is not, at the lowest such sink
    ∷ record {
      call = embed (pos 0 ∷ pos 1 ∷ pos 2 ∷ []) (pos 0 ∷ pos 0 ∷ pos 0 ∷ []) (0 ∷ 1000001 ∷ 1000001 ∷ []) (0 ∷ 1 ∷ 3 ∷ 2 ∷ []) 7;
      gives = embedded (refused 15 (Some 1)) [] [] [];
    }
    -- and for the box of all sinks
    ∷ record {
      call = box (pos 0 ∷ pos 1 ∷ []) (pos 0 ∷ pos 0 ∷ []) (0 ∷ 1000001 ∷ []);
      gives = boxed (refused 15 (Some 1));
    }
    -- and for a held box and one more sink, at place 0
    ∷ record {
      call = widen (record { least_u = pos 0; greatest_u = pos 5; least_v = pos 0; greatest_v = pos 1 }) (pos 0) (pos 0) 1000001;
      gives = widened (refused 15 (Some 0)) (record { least_u = pos 0; greatest_u = pos 5; least_v = pos 0; greatest_v = pos 1 });
    }
    -- 4 before 15, though at a higher sink
    ∷ record {
      call = embed (pos 0 ∷ pos 1 ∷ []) (pos 0 ∷ pos 1000001 ∷ []) (1000001 ∷ 5 ∷ []) (0 ∷ 1 ∷ []) 7;
      gives = embedded (refused 4 (Some 1)) [] [] [];
    }
    -- and at the same
    ∷ record {
      call = embed (pos 1000001 ∷ []) (pos 0 ∷ []) (1000001 ∷ []) [] 7;
      gives = embedded (refused 4 (Some 0)) [] [] [];
    }
    -- 15 before 6
    ∷ record {
      call = embed (pos 0 ∷ pos 1 ∷ []) (pos 0 ∷ pos 0 ∷ []) (5 ∷ 1000001 ∷ []) (0 ∷ 0 ∷ []) 7;
      gives = embedded (refused 15 (Some 1)) [] [] [];
    }
    -- 15 before 7
    ∷ record {
      call = embed (pos 0 ∷ pos 1 ∷ []) (pos 0 ∷ pos 0 ∷ []) (5 ∷ 1000001 ∷ []) (0 ∷ 1 ∷ []) 0;
      gives = embedded (refused 15 (Some 1)) [] [] [];
    }
    -- 15 in the search, of twelve sinks
    ∷ record {
      call = search (replicate 12 (pos 0)) (replicate 12 (pos 0)) (replicate 11 0 ++ (4294967295 ∷ [])) 9 4096;
      gives = searched (refused 15 (Some 11)) [] [] [] [] [];
    }
    -- 1: too few delays
    ∷ record {
      call = embed (pos 0 ∷ pos 1 ∷ []) (pos 0 ∷ pos 0 ∷ []) (5 ∷ []) (0 ∷ 1 ∷ []) 7;
      gives = embedded (refused 1 None) [] [] [];
    }
    -- before 2
    ∷ record {
      call = embed [] [] (0 ∷ []) [] 7;
      gives = embedded (refused 1 None) [] [] [];
    }
    ∷ []
