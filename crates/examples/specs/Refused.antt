-- Further rows: refusals 1, 3, 6 and 7 by number. 2 stands under P1, 4 under P11, 8 in Texts, 9 in Files, 15 in Delays.
use Rattle.std.specs.Prelude.{List, [], ◌∷◌, pos, replicate}
use Rattle.plane.specs.Said.Said.{refused}
use Rattle.std.specs.Prelude.{None, Some}
use Rattle.examples.specs.Calls.Call.{embed, embed_nearest, join, search}
use Rattle.examples.specs.Calls.Outcome.{embedded, built, joined, searched}
use Rattle.examples.specs.Example.{Row}

unfoldable pub refusals : List Row
refusals =
    -- 1: lists of unlike length
    record {
      call = embed (pos 0 ∷ []) [] (0 ∷ []) [] 7;
      gives = embedded (refused 1 None) [] [] [];
    }
    -- for the search
    ∷ record {
      call = search (pos 0 ∷ []) (pos 0 ∷ pos 0 ∷ []) (0 ∷ []) 0 2;
      gives = searched (refused 1 None) [] [] [] [] [];
    }
    -- 3: over 512 sinks
    ∷ record {
      call = embed (replicate 513 (pos 0)) (replicate 513 (pos 0)) (replicate 513 0) [] 7;
      gives = embedded (refused 3 None) [] [] [];
    }
    -- 512 are not over: the next refusal is 6, for no pair is given
    ∷ record {
      call = embed (replicate 512 (pos 0)) (replicate 512 (pos 0)) (replicate 512 0) [] 7;
      gives = embedded (refused 6 (Some 0)) [] [] [];
    }
    -- for joining
    ∷ record {
      call = join (replicate 513 (pos 0)) (replicate 513 (pos 0)) (replicate 513 0) 6;
      gives = joined (refused 3 None) [];
    }
    -- where 512 need room for 1,022 numbers
    ∷ record {
      call = join (replicate 512 (pos 0)) (replicate 512 (pos 0)) (replicate 512 0) 1021;
      gives = joined (refused 7 None) [];
    }
    -- 6: half a pair
    ∷ record {
      call = embed (pos 0 ∷ pos 4 ∷ []) (pos 0 ∷ pos 0 ∷ []) (0 ∷ 0 ∷ []) (0 ∷ 1 ∷ 0 ∷ []) 7;
      gives = embedded (refused 6 (Some 1)) [] [] [];
    }
    -- 6: too few pairs
    ∷ record {
      call = embed (pos 0 ∷ pos 2 ∷ pos 10 ∷ []) (pos 0 ∷ pos 0 ∷ pos 0 ∷ []) (0 ∷ 0 ∷ 0 ∷ []) (0 ∷ 1 ∷ []) 7;
      gives = embedded (refused 6 (Some 1)) [] [] [];
    }
    -- 6: too many pairs
    ∷ record {
      call = embed (pos 0 ∷ pos 4 ∷ []) (pos 0 ∷ pos 0 ∷ []) (0 ∷ 0 ∷ []) (0 ∷ 1 ∷ 0 ∷ 1 ∷ []) 7;
      gives = embedded (refused 6 (Some 1)) [] [] [];
    }
    -- 6: a node named again
    ∷ record {
      call = embed (pos 0 ∷ pos 2 ∷ pos 10 ∷ []) (pos 0 ∷ pos 0 ∷ pos 0 ∷ []) (0 ∷ 0 ∷ 0 ∷ []) (0 ∷ 1 ∷ 0 ∷ 2 ∷ []) 7;
      gives = embedded (refused 6 (Some 1)) [] [] [];
    }
    -- 6: a node that is not lower
    ∷ record {
      call = embed (pos 0 ∷ pos 2 ∷ pos 10 ∷ []) (pos 0 ∷ pos 0 ∷ pos 0 ∷ []) (0 ∷ 0 ∷ 0 ∷ []) (0 ∷ 3 ∷ 1 ∷ 2 ∷ []) 7;
      gives = embedded (refused 6 (Some 0)) [] [] [];
    }
    -- 6: a node twice in a pair
    ∷ record {
      call = embed (pos 0 ∷ pos 2 ∷ pos 10 ∷ []) (pos 0 ∷ pos 0 ∷ pos 0 ∷ []) (0 ∷ 0 ∷ 0 ∷ []) (1 ∷ 1 ∷ 3 ∷ 2 ∷ []) 7;
      gives = embedded (refused 6 (Some 0)) [] [] [];
    }
    -- 7: a buffer one too short
    ∷ record {
      call = embed (pos 0 ∷ pos 4 ∷ []) (pos 0 ∷ pos 0 ∷ []) (0 ∷ 0 ∷ []) (0 ∷ 1 ∷ []) 2;
      gives = embedded (refused 7 None) [] [] [];
    }
    -- for joining
    ∷ record {
      call = join (pos 0 ∷ pos 2 ∷ pos 10 ∷ []) (pos 0 ∷ pos 0 ∷ pos 0 ∷ []) (0 ∷ 0 ∷ 0 ∷ []) 3;
      gives = joined (refused 7 None) [];
    }
    -- for joining and embedding at once
    ∷ record {
      call = embed_nearest (pos 0 ∷ pos 2 ∷ pos 10 ∷ []) (pos 0 ∷ pos 0 ∷ pos 0 ∷ []) (0 ∷ 0 ∷ 0 ∷ []) 4;
      gives = built (refused 7 None) [] [] [] [];
    }
    -- for the search: a work table shorter than 2^3
    ∷ record {
      call = search (pos 0 ∷ pos 2 ∷ pos 10 ∷ []) (pos 0 ∷ pos 0 ∷ pos 0 ∷ []) (0 ∷ 0 ∷ 0 ∷ []) 6 7;
      gives = searched (refused 7 None) [] [] [] [] [];
    }
    -- 6 before 7
    ∷ record {
      call = embed (pos 0 ∷ pos 4 ∷ []) (pos 0 ∷ pos 0 ∷ []) (0 ∷ 0 ∷ []) (1 ∷ 1 ∷ []) 2;
      gives = embedded (refused 6 (Some 0)) [] [] [];
    }
    -- 4 before 6
    ∷ record {
      call = embed (pos 0 ∷ pos 1000001 ∷ []) (pos 0 ∷ pos 0 ∷ []) (0 ∷ 0 ∷ []) (1 ∷ 1 ∷ []) 7;
      gives = embedded (refused 4 (Some 1)) [] [] [];
    }
    ∷ []
