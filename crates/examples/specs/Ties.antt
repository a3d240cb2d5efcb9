-- Further rows: the ties of joining by least diameter, and pins that share a place.
use Rattle.std.specs.Prelude.{true, false, List, [], ◌∷◌, pos, negsuc}
use Rattle.plane.specs.Said.Said.{answered}
use Rattle.examples.specs.Calls.Call.{embed, embed_nearest, join, search}
use Rattle.examples.specs.Calls.Outcome.{embedded, built, joined, searched}
use Rattle.examples.specs.Example.{Row}

unfoldable pub ties : List Row
ties =
    -- one sink is joined to nothing
    record {
      call = join (pos 3 ∷ []) (negsuc 4 ∷ []) (0 ∷ []) 6;
      gives = joined (answered tt) [];
    }
    -- the nearest two first
    ∷ record {
      call = join (pos 0 ∷ pos 10 ∷ pos 2 ∷ []) (pos 0 ∷ pos 0 ∷ pos 0 ∷ []) (0 ∷ 0 ∷ 0 ∷ []) 6;
      gives = joined (answered tt) (0 ∷ 2 ∷ 1 ∷ 3 ∷ []);
    }
    -- of equal pairs the lower first number
    ∷ record {
      call = join (pos 0 ∷ pos 1 ∷ pos 2 ∷ pos 3 ∷ []) (pos 0 ∷ pos 0 ∷ pos 0 ∷ pos 0 ∷ []) (0 ∷ 0 ∷ 0 ∷ 0 ∷ []) 6;
      gives = joined (answered tt) (0 ∷ 1 ∷ 2 ∷ 3 ∷ 4 ∷ 5 ∷ []);
    }
    -- then the lower second
    ∷ record {
      call = join (pos 0 ∷ pos 2 ∷ pos 0 ∷ []) (pos 0 ∷ pos 0 ∷ pos 2 ∷ []) (0 ∷ 0 ∷ 0 ∷ []) 6;
      gives = joined (answered tt) (0 ∷ 1 ∷ 2 ∷ 3 ∷ []);
    }
    -- the least union, though two segments are nearer to each other (000)
    ∷ record {
      call = join (pos 0 ∷ pos 10 ∷ pos 22 ∷ pos 42 ∷ []) (pos 0 ∷ pos 0 ∷ pos 0 ∷ pos 0 ∷ []) (0 ∷ 0 ∷ 0 ∷ 0 ∷ []) 6;
      gives = joined (answered tt) (0 ∷ 1 ∷ 2 ∷ 3 ∷ 4 ∷ 5 ∷ []);
    }
    -- case D
    ∷ record {
      call = join (pos 0 ∷ pos 4 ∷ pos 7 ∷ pos 11 ∷ []) (pos 0 ∷ pos 0 ∷ pos 0 ∷ pos 0 ∷ []) (0 ∷ 0 ∷ 0 ∷ 0 ∷ []) 6;
      gives = joined (answered tt) (1 ∷ 2 ∷ 0 ∷ 4 ∷ 3 ∷ 5 ∷ []);
    }
    -- P5's sinks joined and embedded at once
    ∷ record {
      call = embed_nearest (pos 0 ∷ pos 2 ∷ pos 10 ∷ []) (pos 0 ∷ pos 0 ∷ pos 0 ∷ []) (0 ∷ 0 ∷ 0 ∷ []) 5;
      gives = built (answered 22) (0 ∷ 1 ∷ 2 ∷ 3 ∷ []) (pos 0 ∷ pos 4 ∷ pos 20 ∷ pos 2 ∷ pos 10 ∷ []) (pos 0 ∷ pos 4 ∷ pos 20 ∷ pos 2 ∷ pos 10 ∷ []) (2 ∷ 2 ∷ 10 ∷ 8 ∷ 0 ∷ []);
    }
    -- two pins on one place: no wire, proven
    ∷ record {
      call = search (pos 3 ∷ pos 3 ∷ []) (negsuc 4 ∷ negsuc 4 ∷ []) (0 ∷ 0 ∷ []) 1 4;
      gives = searched (answered (record { total = 0; steps = 1; proven = true })) (0 ∷ 0 ∷ 0 ∷ 0 ∷ []) (0 ∷ 1 ∷ []) (negsuc 3 ∷ negsuc 3 ∷ negsuc 3 ∷ []) (pos 16 ∷ pos 16 ∷ pos 16 ∷ []) (0 ∷ 0 ∷ 0 ∷ []);
    }
    -- and below F(2) the same tree, unproven
    ∷ record {
      call = search (pos 3 ∷ pos 3 ∷ []) (negsuc 4 ∷ negsuc 4 ∷ []) (0 ∷ 0 ∷ []) 0 4;
      gives = searched (answered (record { total = 0; steps = 0; proven = false })) (0 ∷ 0 ∷ 0 ∷ 4294967295 ∷ []) (0 ∷ 1 ∷ []) (negsuc 3 ∷ negsuc 3 ∷ negsuc 3 ∷ []) (pos 16 ∷ pos 16 ∷ pos 16 ∷ []) (0 ∷ 0 ∷ 0 ∷ []);
    }
    -- four pins on two places: those on one place are joined first, without wire
    ∷ record {
      call = search (pos 0 ∷ pos 10 ∷ pos 0 ∷ pos 10 ∷ []) (pos 0 ∷ pos 0 ∷ pos 0 ∷ pos 0 ∷ []) (0 ∷ 0 ∷ 0 ∷ 0 ∷ []) 25 16;
      gives = searched (answered (record { total = 20; steps = 25; proven = true })) (0 ∷ 0 ∷ 0 ∷ 10 ∷ 0 ∷ 0 ∷ 10 ∷ 10 ∷ 0 ∷ 10 ∷ 0 ∷ 10 ∷ 10 ∷ 10 ∷ 10 ∷ 10 ∷ []) (0 ∷ 2 ∷ 1 ∷ 3 ∷ 4 ∷ 5 ∷ []) (pos 0 ∷ pos 20 ∷ pos 0 ∷ pos 20 ∷ pos 0 ∷ pos 20 ∷ pos 10 ∷ []) (pos 0 ∷ pos 20 ∷ pos 0 ∷ pos 20 ∷ pos 0 ∷ pos 20 ∷ pos 10 ∷ []) (0 ∷ 0 ∷ 0 ∷ 0 ∷ 10 ∷ 10 ∷ 0 ∷ []);
    }
    -- by least diameter too: 0 is the least
    ∷ record {
      call = join (pos 0 ∷ pos 10 ∷ pos 0 ∷ pos 10 ∷ []) (pos 0 ∷ pos 0 ∷ pos 0 ∷ pos 0 ∷ []) (0 ∷ 0 ∷ 0 ∷ 0 ∷ []) 6;
      gives = joined (answered tt) (0 ∷ 2 ∷ 1 ∷ 3 ∷ 4 ∷ 5 ∷ []);
    }
    -- five pins on one place: the lower first number, then the lower second
    ∷ record {
      call = join (pos 8 ∷ pos 8 ∷ pos 8 ∷ pos 8 ∷ pos 8 ∷ []) (pos 3 ∷ pos 3 ∷ pos 3 ∷ pos 3 ∷ pos 3 ∷ []) (0 ∷ 0 ∷ 0 ∷ 0 ∷ 0 ∷ []) 8;
      gives = joined (answered tt) (0 ∷ 1 ∷ 2 ∷ 3 ∷ 4 ∷ 5 ∷ 6 ∷ 7 ∷ []);
    }
    -- given another order, the second pin on a place has a wire of its own
    ∷ record {
      call = embed (pos 0 ∷ pos 4 ∷ pos 0 ∷ []) (pos 0 ∷ pos 0 ∷ pos 0 ∷ []) (0 ∷ 0 ∷ 0 ∷ []) (0 ∷ 1 ∷ 3 ∷ 2 ∷ []) 7;
      gives = embedded (answered 12) (pos 0 ∷ pos 8 ∷ pos 0 ∷ pos 4 ∷ pos 4 ∷ []) (pos 0 ∷ pos 8 ∷ pos 0 ∷ pos 4 ∷ pos 4 ∷ []) (4 ∷ 4 ∷ 4 ∷ 0 ∷ 0 ∷ []);
    }
    ∷ []
