-- Document 01, "Table of checked examples": P11 and P12, in its words, each by the calls that take sinks.
use Rattle.std.specs.Prelude.{true, false, List, [], ◌∷◌, pos, negsuc}
use Rattle.plane.specs.Said.Said.{answered, refused}
use Rattle.std.specs.Prelude.{None, Some}
use Rattle.examples.specs.Calls.Call.{box, widen, embed, embed_nearest, join, search, say, steps, write_sinks}
use Rattle.examples.specs.Calls.Outcome.{boxed, widened, embedded, built, joined, searched, told, counted, wrote}
use Rattle.examples.specs.Example.{Row}

unfoldable pub limits : List Row
limits =
    -- P11: "x = 1,000,000 accepted, 1,000,001 refused 4"
    record {
      call = embed (pos 1000000 ∷ []) (pos 0 ∷ []) (0 ∷ []) [] 7;
      gives = embedded (answered 0) (pos 2000000 ∷ []) (pos 2000000 ∷ []) (0 ∷ []);
    }
    -- at place 0, the number of the sink
    ∷ record {
      call = embed (pos 1000001 ∷ []) (pos 0 ∷ []) (0 ∷ []) [] 7;
      gives = embedded (refused 4 (Some 0)) [] [] [];
    }
    -- x = -1,000,000
    ∷ record {
      call = embed (negsuc 999999 ∷ []) (pos 0 ∷ []) (0 ∷ []) [] 7;
      gives = embedded (answered 0) (negsuc 1999999 ∷ []) (negsuc 1999999 ∷ []) (0 ∷ []);
    }
    -- and one less
    ∷ record {
      call = embed (negsuc 1000000 ∷ []) (pos 0 ∷ []) (0 ∷ []) [] 7;
      gives = embedded (refused 4 (Some 0)) [] [] [];
    }
    -- y = 1,000,000
    ∷ record {
      call = embed (pos 0 ∷ []) (pos 1000000 ∷ []) (0 ∷ []) [] 7;
      gives = embedded (answered 0) (pos 2000000 ∷ []) (negsuc 1999999 ∷ []) (0 ∷ []);
    }
    -- and one more, of sink 1
    ∷ record {
      call = embed (pos 0 ∷ pos 0 ∷ []) (pos 1000000 ∷ pos 1000001 ∷ []) (0 ∷ 0 ∷ []) (0 ∷ 1 ∷ []) 7;
      gives = embedded (refused 4 (Some 1)) [] [] [];
    }
    -- y = -1,000,000
    ∷ record {
      call = embed (pos 0 ∷ []) (negsuc 999999 ∷ []) (0 ∷ []) [] 7;
      gives = embedded (answered 0) (negsuc 1999999 ∷ []) (pos 2000000 ∷ []) (0 ∷ []);
    }
    -- and one less: of two such sinks, the lowest
    ∷ record {
      call = embed (pos 0 ∷ pos 0 ∷ pos 1000001 ∷ []) (pos 0 ∷ negsuc 1000000 ∷ pos 0 ∷ []) (0 ∷ 0 ∷ 0 ∷ []) (0 ∷ 1 ∷ 3 ∷ 2 ∷ []) 7;
      gives = embedded (refused 4 (Some 1)) [] [] [];
    }
    -- for the search
    ∷ record {
      call = search (pos 1000000 ∷ []) (pos 0 ∷ []) (0 ∷ []) 0 2;
      gives = searched (answered (record { total = 0; steps = 0; proven = true })) (0 ∷ 0 ∷ []) [] (pos 2000000 ∷ []) (pos 2000000 ∷ []) (0 ∷ []);
    }
    -- and 1,000,001
    ∷ record {
      call = search (pos 1000001 ∷ []) (pos 0 ∷ []) (0 ∷ []) 0 2;
      gives = searched (refused 4 (Some 0)) [] [] [] [] [];
    }
    -- for joining
    ∷ record {
      call = join (pos 0 ∷ pos 1000000 ∷ []) (pos 0 ∷ pos 0 ∷ []) (0 ∷ 0 ∷ []) 6;
      gives = joined (answered tt) (0 ∷ 1 ∷ []);
    }
    -- and 1,000,001
    ∷ record {
      call = join (pos 0 ∷ pos 1000001 ∷ []) (pos 0 ∷ pos 0 ∷ []) (0 ∷ 0 ∷ []) 6;
      gives = joined (refused 4 (Some 1)) [];
    }
    -- for both at once
    ∷ record {
      call = embed_nearest (pos 0 ∷ pos 1000000 ∷ []) (pos 0 ∷ pos 0 ∷ []) (0 ∷ 0 ∷ []) 3;
      gives = built (answered 2000000) (0 ∷ 1 ∷ []) (pos 0 ∷ pos 2000000 ∷ pos 1000000 ∷ []) (pos 0 ∷ pos 2000000 ∷ pos 1000000 ∷ []) (1000000 ∷ 1000000 ∷ 0 ∷ []);
    }
    -- and 1,000,001
    ∷ record {
      call = embed_nearest (pos 0 ∷ pos 1000001 ∷ []) (pos 0 ∷ pos 0 ∷ []) (0 ∷ 0 ∷ []) 3;
      gives = built (refused 4 (Some 1)) [] [] [] [];
    }
    -- for the box of all sinks
    ∷ record {
      call = box (pos 0 ∷ pos 1000000 ∷ []) (pos 0 ∷ pos 0 ∷ []) (0 ∷ 0 ∷ []);
      gives = boxed (answered (record { least_u = pos 0; greatest_u = pos 1000000; least_v = pos 0; greatest_v = pos 1000000 }, 1000000));
    }
    -- and 1,000,001
    ∷ record {
      call = box (pos 0 ∷ pos 1000001 ∷ []) (pos 0 ∷ pos 0 ∷ []) (0 ∷ 0 ∷ []);
      gives = boxed (refused 4 (Some 1));
    }
    -- for a held box and one more sink
    ∷ record {
      call = widen (record { least_u = pos 0; greatest_u = pos 5; least_v = pos 0; greatest_v = pos 1 }) (pos 0) (pos 1000000) 0;
      gives = widened (answered tt) (record { least_u = pos 0; greatest_u = pos 1000000; least_v = negsuc 999999; greatest_v = pos 1 });
    }
    -- "refused with 4, place 0, and the held box stays as it is"
    ∷ record {
      call = widen (record { least_u = pos 0; greatest_u = pos 5; least_v = pos 0; greatest_v = pos 1 }) (pos 0) (pos 1000001) 0;
      gives = widened (refused 4 (Some 0)) (record { least_u = pos 0; greatest_u = pos 5; least_v = pos 0; greatest_v = pos 1 });
    }
    -- for a file
    ∷ record {
      call = write_sinks (pos 1000001 ∷ []) (pos 0 ∷ []) 15;
      gives = wrote (refused 4 (Some 0)) [];
    }
    -- P12: "12 sinks accepted for the search": twelve in a row, x from 0 to 11. By least diameter six pairs of d 1, three of d 3, then 7 and 11; total 6·1 + 3·3 + 7 + 11 + 11
    ∷ record {
      call = say (pos 0 ∷ pos 1 ∷ pos 2 ∷ pos 3 ∷ pos 4 ∷ pos 5 ∷ pos 6 ∷ pos 7 ∷ pos 8 ∷ pos 9 ∷ pos 10 ∷ pos 11 ∷ []) (pos 0 ∷ pos 0 ∷ pos 0 ∷ pos 0 ∷ pos 0 ∷ pos 0 ∷ pos 0 ∷ pos 0 ∷ pos 0 ∷ pos 0 ∷ pos 0 ∷ pos 0 ∷ []) (0 ∷ 0 ∷ 0 ∷ 0 ∷ 0 ∷ 0 ∷ 0 ∷ 0 ∷ 0 ∷ 0 ∷ 0 ∷ 0 ∷ []) 0 4096;
      gives = told (answered (record { total = 44; steps = 0; proven = false }));
    }
    -- "13 refused 3"
    ∷ record {
      call = search (pos 0 ∷ pos 1 ∷ pos 2 ∷ pos 3 ∷ pos 4 ∷ pos 5 ∷ pos 6 ∷ pos 7 ∷ pos 8 ∷ pos 9 ∷ pos 10 ∷ pos 11 ∷ pos 12 ∷ []) (pos 0 ∷ pos 0 ∷ pos 0 ∷ pos 0 ∷ pos 0 ∷ pos 0 ∷ pos 0 ∷ pos 0 ∷ pos 0 ∷ pos 0 ∷ pos 0 ∷ pos 0 ∷ pos 0 ∷ []) (0 ∷ 0 ∷ 0 ∷ 0 ∷ 0 ∷ 0 ∷ 0 ∷ 0 ∷ 0 ∷ 0 ∷ 0 ∷ 0 ∷ 0 ∷ []) 0 8192;
      gives = searched (refused 3 None) [] [] [] [] [];
    }
    -- "F(12) = 261,625"
    ∷ record {
      call = steps 12;
      gives = counted 261625;
    }
    ∷ []
