-- Document 01, "Table of checked examples": P1 to P10, in its words.
use Rattle.std.specs.Prelude.{true, false, List, [], ◌∷◌, pos, negsuc}
use Rattle.plane.specs.Said.Said.{answered, refused}
use Rattle.std.specs.Prelude.{None}
use Rattle.examples.specs.Calls.Call.{box, embed, join, search, node, wire}
use Rattle.examples.specs.Calls.Outcome.{boxed, embedded, joined, searched, stands, snakes}
use Rattle.examples.specs.Example.{Row}

unfoldable pub trees : List Row
trees =
    -- P1: "no sinks: 2"
    record {
      call = embed [] [] [] [] 7;
      gives = embedded (refused 2 None) [] [] [];
    }
    -- and for the search
    ∷ record {
      call = search [] [] [] 0 1;
      gives = searched (refused 2 None) [] [] [] [] [];
    }
    -- and for joining
    ∷ record {
      call = join [] [] [] 6;
      gives = joined (refused 2 None) [];
    }
    -- and for the box of all sinks
    ∷ record {
      call = box [] [] [];
      gives = boxed (refused 2 None);
    }
    -- P2: "one sink at (3,-5): place U -4, V 16, total 0, proven at budget 0"
    ∷ record {
      call = search (pos 3 ∷ []) (negsuc 4 ∷ []) (0 ∷ []) 0 2;
      gives = searched (answered (record { total = 0; steps = 0; proven = true })) (0 ∷ 0 ∷ []) [] (negsuc 3 ∷ []) (pos 16 ∷ []) (0 ∷ []);
    }
    -- the same sink, embedded
    ∷ record {
      call = embed (pos 3 ∷ []) (negsuc 4 ∷ []) (0 ∷ []) [] 7;
      gives = embedded (answered 0) (negsuc 3 ∷ []) (pos 16 ∷ []) (0 ∷ []);
    }
    -- P3: "(0,0) (4,0): root 4, 4; wires 4, 4; total 8"
    ∷ record {
      call = embed (pos 0 ∷ pos 4 ∷ []) (pos 0 ∷ pos 0 ∷ []) (0 ∷ 0 ∷ []) (0 ∷ 1 ∷ []) 7;
      gives = embedded (answered 8) (pos 0 ∷ pos 8 ∷ pos 4 ∷ []) (pos 0 ∷ pos 8 ∷ pos 4 ∷ []) (4 ∷ 4 ∷ 0 ∷ []);
    }
    -- P4: "(0,0) (3,2): d 5, root U 5, V -3 (plane 0.5, 2), total 10"
    ∷ record {
      call = embed (pos 0 ∷ pos 3 ∷ []) (pos 0 ∷ pos 2 ∷ []) (0 ∷ 0 ∷ []) (0 ∷ 1 ∷ []) 7;
      gives = embedded (answered 10) (pos 0 ∷ pos 10 ∷ pos 5 ∷ []) (pos 0 ∷ pos 2 ∷ negsuc 2 ∷ []) (5 ∷ 5 ∷ 0 ∷ []);
    }
    -- its d by the box of all sinks: u from 0 to 5, v from 0 to 1
    ∷ record {
      call = box (pos 0 ∷ pos 3 ∷ []) (pos 0 ∷ pos 2 ∷ []) (0 ∷ 0 ∷ []);
      gives = boxed (answered (record { least_u = pos 0; greatest_u = pos 5; least_v = pos 0; greatest_v = pos 1 }, 5));
    }
    -- d of the root, and its plane position in quarters: 2/4 and 8/4
    ∷ record {
      call = node (pos 0 ∷ pos 3 ∷ []) (pos 0 ∷ pos 2 ∷ []) (0 ∷ 0 ∷ []) (0 ∷ 1 ∷ []) 2;
      gives = stands 5 (record { x = pos 2; y = pos 8 });
    }
    -- P5: "(0,0) (2,0) (10,0), pairs (0,1) (3,2): wires 2, 2, 10, 8; total 22"
    ∷ record {
      call = embed (pos 0 ∷ pos 2 ∷ pos 10 ∷ []) (pos 0 ∷ pos 0 ∷ pos 0 ∷ []) (0 ∷ 0 ∷ 0 ∷ []) (0 ∷ 1 ∷ 3 ∷ 2 ∷ []) 7;
      gives = embedded (answered 22) (pos 0 ∷ pos 4 ∷ pos 20 ∷ pos 2 ∷ pos 10 ∷ []) (pos 0 ∷ pos 4 ∷ pos 20 ∷ pos 2 ∷ pos 10 ∷ []) (2 ∷ 2 ∷ 10 ∷ 8 ∷ 0 ∷ []);
    }
    -- P6: "same sinks, pairs (0,2) (3,1): total 30; sink 1 snakes 4"
    ∷ record {
      call = embed (pos 0 ∷ pos 2 ∷ pos 10 ∷ []) (pos 0 ∷ pos 0 ∷ pos 0 ∷ []) (0 ∷ 0 ∷ 0 ∷ []) (0 ∷ 2 ∷ 3 ∷ 1 ∷ []) 7;
      gives = embedded (answered 30) (pos 0 ∷ pos 4 ∷ pos 20 ∷ pos 10 ∷ pos 10 ∷ []) (pos 0 ∷ pos 4 ∷ pos 20 ∷ pos 10 ∷ pos 10 ∷ []) (10 ∷ 10 ∷ 10 ∷ 0 ∷ 0 ∷ []);
    }
    -- sink 1's wire of 10 half units over a distance of 6
    ∷ record {
      call = wire (pos 0 ∷ pos 2 ∷ pos 10 ∷ []) (pos 0 ∷ pos 0 ∷ pos 0 ∷ []) (0 ∷ 0 ∷ 0 ∷ []) (0 ∷ 2 ∷ 3 ∷ 1 ∷ []) 1;
      gives = snakes 10 6 4;
    }
    -- P7: "same sinks, budget 4: subset 7 holds 18"
    ∷ record {
      call = search (pos 0 ∷ pos 2 ∷ pos 10 ∷ []) (pos 0 ∷ pos 0 ∷ pos 0 ∷ []) (0 ∷ 0 ∷ 0 ∷ []) 4 8;
      gives = searched (answered (record { total = 22; steps = 4; proven = false })) (0 ∷ 0 ∷ 0 ∷ 2 ∷ 0 ∷ 10 ∷ 8 ∷ 18 ∷ []) (0 ∷ 1 ∷ 2 ∷ 3 ∷ []) (pos 0 ∷ pos 4 ∷ pos 20 ∷ pos 2 ∷ pos 10 ∷ []) (pos 0 ∷ pos 4 ∷ pos 20 ∷ pos 2 ∷ pos 10 ∷ []) (2 ∷ 2 ∷ 10 ∷ 8 ∷ 0 ∷ []);
    }
    -- P8: "budget 5: 12, unproven"
    ∷ record {
      call = search (pos 0 ∷ pos 2 ∷ pos 10 ∷ []) (pos 0 ∷ pos 0 ∷ pos 0 ∷ []) (0 ∷ 0 ∷ 0 ∷ []) 5 8;
      gives = searched (answered (record { total = 22; steps = 5; proven = false })) (0 ∷ 0 ∷ 0 ∷ 2 ∷ 0 ∷ 10 ∷ 8 ∷ 12 ∷ []) (0 ∷ 1 ∷ 2 ∷ 3 ∷ []) (pos 0 ∷ pos 4 ∷ pos 20 ∷ pos 2 ∷ pos 10 ∷ []) (pos 0 ∷ pos 4 ∷ pos 20 ∷ pos 2 ∷ pos 10 ∷ []) (2 ∷ 2 ∷ 10 ∷ 8 ∷ 0 ∷ []);
    }
    -- P9: "budget 6: proven, total 22"
    ∷ record {
      call = search (pos 0 ∷ pos 2 ∷ pos 10 ∷ []) (pos 0 ∷ pos 0 ∷ pos 0 ∷ []) (0 ∷ 0 ∷ 0 ∷ []) 6 8;
      gives = searched (answered (record { total = 22; steps = 6; proven = true })) (0 ∷ 0 ∷ 0 ∷ 2 ∷ 0 ∷ 10 ∷ 8 ∷ 12 ∷ []) (0 ∷ 1 ∷ 3 ∷ 2 ∷ []) (pos 0 ∷ pos 4 ∷ pos 20 ∷ pos 2 ∷ pos 10 ∷ []) (pos 0 ∷ pos 4 ∷ pos 20 ∷ pos 2 ∷ pos 10 ∷ []) (2 ∷ 2 ∷ 10 ∷ 8 ∷ 0 ∷ []);
    }
    -- P10: "case D, budget 24: pairs (1,2) (0,4) (3,5), total 32, unproven"
    ∷ record {
      call = search (pos 0 ∷ pos 4 ∷ pos 7 ∷ pos 11 ∷ []) (pos 0 ∷ pos 0 ∷ pos 0 ∷ pos 0 ∷ []) (0 ∷ 0 ∷ 0 ∷ 0 ∷ []) 24 16;
      gives = searched (answered (record { total = 32; steps = 24; proven = false })) (0 ∷ 0 ∷ 0 ∷ 4 ∷ 0 ∷ 7 ∷ 3 ∷ 10 ∷ 0 ∷ 11 ∷ 7 ∷ 15 ∷ 4 ∷ 15 ∷ 10 ∷ 19 ∷ []) (1 ∷ 2 ∷ 0 ∷ 4 ∷ 3 ∷ 5 ∷ []) (pos 0 ∷ pos 8 ∷ pos 14 ∷ pos 22 ∷ pos 11 ∷ pos 7 ∷ pos 11 ∷ []) (pos 0 ∷ pos 8 ∷ pos 14 ∷ pos 22 ∷ pos 11 ∷ pos 7 ∷ pos 11 ∷ []) (7 ∷ 3 ∷ 3 ∷ 11 ∷ 4 ∷ 4 ∷ 0 ∷ []);
    }
    -- "budget 25: total 30"
    ∷ record {
      call = search (pos 0 ∷ pos 4 ∷ pos 7 ∷ pos 11 ∷ []) (pos 0 ∷ pos 0 ∷ pos 0 ∷ pos 0 ∷ []) (0 ∷ 0 ∷ 0 ∷ 0 ∷ []) 25 16;
      gives = searched (answered (record { total = 30; steps = 25; proven = true })) (0 ∷ 0 ∷ 0 ∷ 4 ∷ 0 ∷ 7 ∷ 3 ∷ 10 ∷ 0 ∷ 11 ∷ 7 ∷ 15 ∷ 4 ∷ 15 ∷ 10 ∷ 19 ∷ []) (0 ∷ 1 ∷ 2 ∷ 3 ∷ 4 ∷ 5 ∷ []) (pos 0 ∷ pos 8 ∷ pos 14 ∷ pos 22 ∷ pos 4 ∷ pos 18 ∷ pos 11 ∷ []) (pos 0 ∷ pos 8 ∷ pos 14 ∷ pos 22 ∷ pos 4 ∷ pos 18 ∷ pos 11 ∷ []) (4 ∷ 4 ∷ 4 ∷ 4 ∷ 7 ∷ 7 ∷ 0 ∷ []);
    }
    ∷ []
