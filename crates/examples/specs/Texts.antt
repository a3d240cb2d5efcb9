-- Further rows: refusal 8 by number, and what the program prints.
use Rattle.std.specs.Prelude.{List, [], ◌∷◌}
use Rattle.plane.specs.Said.Said.{refused}
use Rattle.std.specs.Prelude.{None, Some}
use Rattle.examples.specs.Calls.Call.{read_sinks, read_joined, print}
use Rattle.examples.specs.Calls.Outcome.{got, printed}
use Rattle.examples.specs.Example.{Row}
use Rattle.examples.specs.Files.{case_d, joined_p3}

unfoldable pub texts : List Row
texts =
    -- 8: case D, read as a joined file, ends before tag 3
    record {
      call = read_joined case_d 7;
      gives = got (refused 8 (Some 39)) [] [] [];
    }
    -- 8: P3's joined file, read as a sink file, goes on
    ∷ record {
      call = read_sinks joined_p3 7;
      gives = got (refused 8 (Some 23)) [] [] [];
    }
    -- 8: an empty file
    ∷ record {
      call = read_sinks [] 7;
      gives = got (refused 8 (Some 0)) [] [] [];
    }
    -- 8: a value past the end
    ∷ record {
      call = read_sinks (1 ∷ 0 ∷ 1 ∷ []) 7;
      gives = got (refused 8 (Some 0)) [] [] [];
    }
    -- 8: a file that ends inside a length
    ∷ record {
      call = read_sinks (1 ∷ 0 ∷ []) 7;
      gives = got (refused 8 (Some 2)) [] [] [];
    }
    -- 8: a wrong tag, though the file ends there
    ∷ record {
      call = read_sinks (2 ∷ []) 7;
      gives = got (refused 8 (Some 0)) [] [] [];
    }
    -- 8: another version
    ∷ record {
      call = read_sinks (1 ∷ 0 ∷ 1 ∷ 2 ∷ []) 7;
      gives = got (refused 8 (Some 0)) [] [] [];
    }
    -- 8: no tag 2
    ∷ record {
      call = read_sinks (1 ∷ 0 ∷ 1 ∷ 1 ∷ []) 7;
      gives = got (refused 8 (Some 4)) [] [] [];
    }
    -- 8: tag 3 for tag 2
    ∷ record {
      call = read_sinks (1 ∷ 0 ∷ 1 ∷ 1 ∷ 3 ∷ []) 7;
      gives = got (refused 8 (Some 4)) [] [] [];
    }
    -- 8: no multiple of 8
    ∷ record {
      call = read_sinks (1 ∷ 0 ∷ 1 ∷ 1 ∷ 2 ∷ 0 ∷ 4 ∷ 0 ∷ 0 ∷ 0 ∷ 0 ∷ []) 7;
      gives = got (refused 8 (Some 4)) [] [] [];
    }
    -- 2: a tag 2 of length 0 is of the form
    ∷ record {
      call = read_sinks (1 ∷ 0 ∷ 1 ∷ 1 ∷ 2 ∷ 0 ∷ 0 ∷ []) 7;
      gives = got (refused 2 None) [] [] [];
    }
    -- 8: the first byte too many
    ∷ record {
      call = read_sinks (1 ∷ 0 ∷ 1 ∷ 1 ∷ 2 ∷ 0 ∷ 0 ∷ 3 ∷ []) 7;
      gives = got (refused 8 (Some 7)) [] [] [];
    }
    -- case D, what the program prints
    ∷ record {
      call = print case_d;
      gives = printed (115 ∷ 105 ∷ 110 ∷ 107 ∷ 115 ∷ 32 ∷ 52 ∷ 32 ∷ 119 ∷ 105 ∷ 114 ∷ 101 ∷ 32 ∷ 51 ∷ 48 ∷ 32 ∷ 112 ∷ 114 ∷ 111 ∷ 118 ∷ 101 ∷ 110 ∷ 10 ∷ 40 ∷ 40 ∷ 48 ∷ 32 ∷ 49 ∷ 41 ∷ 32 ∷ 40 ∷ 50 ∷ 32 ∷ 51 ∷ 41 ∷ 41 ∷ 10 ∷ 48 ∷ 32 ∷ 48 ∷ 32 ∷ 48 ∷ 32 ∷ 52 ∷ 32 ∷ 52 ∷ 10 ∷ 49 ∷ 32 ∷ 56 ∷ 32 ∷ 56 ∷ 32 ∷ 52 ∷ 32 ∷ 52 ∷ 10 ∷ 50 ∷ 32 ∷ 49 ∷ 52 ∷ 32 ∷ 49 ∷ 52 ∷ 32 ∷ 52 ∷ 32 ∷ 53 ∷ 10 ∷ 51 ∷ 32 ∷ 50 ∷ 50 ∷ 32 ∷ 50 ∷ 50 ∷ 32 ∷ 52 ∷ 32 ∷ 53 ∷ 10 ∷ 52 ∷ 32 ∷ 52 ∷ 32 ∷ 52 ∷ 32 ∷ 55 ∷ 32 ∷ 54 ∷ 10 ∷ 53 ∷ 32 ∷ 49 ∷ 56 ∷ 32 ∷ 49 ∷ 56 ∷ 32 ∷ 55 ∷ 32 ∷ 54 ∷ 10 ∷ 54 ∷ 32 ∷ 49 ∷ 49 ∷ 32 ∷ 49 ∷ 49 ∷ 32 ∷ 48 ∷ 32 ∷ 45 ∷ 10 ∷ []);
    }
    -- one sink
    ∷ record {
      call = print (1 ∷ 0 ∷ 1 ∷ 1 ∷ 2 ∷ 0 ∷ 8 ∷ 0 ∷ 0 ∷ 0 ∷ 3 ∷ 255 ∷ 255 ∷ 255 ∷ 251 ∷ []);
      gives = printed (115 ∷ 105 ∷ 110 ∷ 107 ∷ 115 ∷ 32 ∷ 49 ∷ 32 ∷ 119 ∷ 105 ∷ 114 ∷ 101 ∷ 32 ∷ 48 ∷ 32 ∷ 112 ∷ 114 ∷ 111 ∷ 118 ∷ 101 ∷ 110 ∷ 10 ∷ 48 ∷ 10 ∷ 48 ∷ 32 ∷ 45 ∷ 52 ∷ 32 ∷ 49 ∷ 54 ∷ 32 ∷ 48 ∷ 32 ∷ 45 ∷ 10 ∷ []);
    }
    -- a refusal without a place
    ∷ record {
      call = print (1 ∷ 0 ∷ 1 ∷ 1 ∷ 2 ∷ 0 ∷ 0 ∷ []);
      gives = printed (114 ∷ 101 ∷ 102 ∷ 117 ∷ 115 ∷ 101 ∷ 100 ∷ 32 ∷ 50 ∷ 10 ∷ []);
    }
    -- place 0 is a place
    ∷ record {
      call = print [];
      gives = printed (114 ∷ 101 ∷ 102 ∷ 117 ∷ 115 ∷ 101 ∷ 100 ∷ 32 ∷ 56 ∷ 32 ∷ 48 ∷ 10 ∷ []);
    }
    ∷ []
