-- Further rows: house files as bytes, written and read, and refusal 9 by number.
use Rattle.std.specs.Prelude.{List, [], ◌∷◌, ◌++◌, ℕ, pos, negsuc}
use Rattle.plane.specs.Said.Said.{answered, refused}
use Rattle.std.specs.Prelude.{None, Some}
use Rattle.examples.specs.Calls.Call.{write_sinks, write_joined, write_tree, read_sinks, read_joined, read_tree}
use Rattle.examples.specs.Calls.Outcome.{wrote, got}
use Rattle.examples.specs.Example.{Row}

-- case D's sink file
abbrev pub case_d : List ℕ
case_d = 1 ∷ 0 ∷ 1 ∷ 1 ∷ 2 ∷ 0 ∷ 32 ∷ 0 ∷ 0 ∷ 0 ∷ 0 ∷ 0 ∷ 0 ∷ 0 ∷ 0 ∷ 0 ∷ 0 ∷ 0 ∷ 4 ∷ 0 ∷ 0 ∷ 0 ∷ 0 ∷ 0 ∷ 0 ∷ 0 ∷ 7 ∷ 0 ∷ 0 ∷ 0 ∷ 0 ∷ 0 ∷ 0 ∷ 0 ∷ 11 ∷ 0 ∷ 0 ∷ 0 ∷ 0 ∷ []

-- P3's joined file, and the field of tag 4 in its tree file
abbrev pub joined_p3 : List ℕ
joined_p3 = 1 ∷ 0 ∷ 1 ∷ 1 ∷ 2 ∷ 0 ∷ 16 ∷ 0 ∷ 0 ∷ 0 ∷ 0 ∷ 0 ∷ 0 ∷ 0 ∷ 0 ∷ 0 ∷ 0 ∷ 0 ∷ 4 ∷ 0 ∷ 0 ∷ 0 ∷ 0 ∷ 3 ∷ 0 ∷ 4 ∷ 0 ∷ 0 ∷ 0 ∷ 1 ∷ []

abbrev places_p3 : List ℕ
places_p3 = 4 ∷ 0 ∷ 24 ∷ 0 ∷ 0 ∷ 0 ∷ 0 ∷ 0 ∷ 0 ∷ 0 ∷ 0 ∷ 0 ∷ 0 ∷ 0 ∷ 8 ∷ 0 ∷ 0 ∷ 0 ∷ 8 ∷ 0 ∷ 0 ∷ 0 ∷ 4 ∷ 0 ∷ 0 ∷ 0 ∷ 4 ∷ []

unfoldable pub files : List Row
files =
    -- case D, its file byte for byte
    record {
      call = write_sinks (pos 0 ∷ pos 4 ∷ pos 7 ∷ pos 11 ∷ []) (pos 0 ∷ pos 0 ∷ pos 0 ∷ pos 0 ∷ []) 39;
      gives = wrote (answered 39) case_d;
    }
    -- 7: a buffer one too short
    ∷ record {
      call = write_sinks (pos 0 ∷ pos 4 ∷ pos 7 ∷ pos 11 ∷ []) (pos 0 ∷ pos 0 ∷ pos 0 ∷ pos 0 ∷ []) 38;
      gives = wrote (refused 7 None) [];
    }
    -- two's complement below 0
    ∷ record {
      call = write_sinks (pos 3 ∷ []) (negsuc 4 ∷ []) 15;
      gives = wrote (answered 15) (1 ∷ 0 ∷ 1 ∷ 1 ∷ 2 ∷ 0 ∷ 8 ∷ 0 ∷ 0 ∷ 0 ∷ 3 ∷ 255 ∷ 255 ∷ 255 ∷ 251 ∷ []);
    }
    -- P3 with its pair
    ∷ record {
      call = write_joined (pos 0 ∷ pos 4 ∷ []) (pos 0 ∷ pos 0 ∷ []) (0 ∷ 1 ∷ []) 30;
      gives = wrote (answered 30) joined_p3;
    }
    -- and as a tree: places 0, 8, 4 on both axes, wires 4, 4, 0
    ∷ record {
      call = write_tree (pos 0 ∷ pos 4 ∷ []) (pos 0 ∷ pos 0 ∷ []) (0 ∷ 1 ∷ []) 72;
      gives = wrote (answered 72) (joined_p3 ++ (places_p3 ++ (5 ∷ 0 ∷ 12 ∷ 0 ∷ 0 ∷ 0 ∷ 4 ∷ 0 ∷ 0 ∷ 0 ∷ 4 ∷ 0 ∷ 0 ∷ 0 ∷ 0 ∷ [])));
    }
    -- 6: a pair of one node
    ∷ record {
      call = write_tree (pos 0 ∷ pos 4 ∷ []) (pos 0 ∷ pos 0 ∷ []) (1 ∷ 1 ∷ []) 72;
      gives = wrote (refused 6 (Some 0)) [];
    }
    -- case D, read
    ∷ record {
      call = read_sinks case_d 4;
      gives = got (answered 4) (pos 0 ∷ pos 4 ∷ pos 7 ∷ pos 11 ∷ []) (pos 0 ∷ pos 0 ∷ pos 0 ∷ pos 0 ∷ []) [];
    }
    -- 7: a buffer one too short
    ∷ record {
      call = read_sinks case_d 3;
      gives = got (refused 7 None) [] [] [];
    }
    -- P3 with its pair, read
    ∷ record {
      call = read_joined joined_p3 2;
      gives = got (answered 2) (pos 0 ∷ pos 4 ∷ []) (pos 0 ∷ pos 0 ∷ []) (0 ∷ 1 ∷ []);
    }
    -- its tree, read
    ∷ record {
      call = read_tree (joined_p3 ++ (places_p3 ++ (5 ∷ 0 ∷ 12 ∷ 0 ∷ 0 ∷ 0 ∷ 4 ∷ 0 ∷ 0 ∷ 0 ∷ 4 ∷ 0 ∷ 0 ∷ 0 ∷ 0 ∷ []))) 2;
      gives = got (answered 2) (pos 0 ∷ pos 4 ∷ []) (pos 0 ∷ pos 0 ∷ []) (0 ∷ 1 ∷ []);
    }
    -- 9: another wire at node 1
    ∷ record {
      call = read_tree (joined_p3 ++ (places_p3 ++ (5 ∷ 0 ∷ 12 ∷ 0 ∷ 0 ∷ 0 ∷ 4 ∷ 0 ∷ 0 ∷ 0 ∷ 5 ∷ 0 ∷ 0 ∷ 0 ∷ 0 ∷ []))) 2;
      gives = got (refused 9 (Some 1)) [] [] [];
    }
    -- 9: a wire too few
    ∷ record {
      call = read_tree (joined_p3 ++ (places_p3 ++ (5 ∷ 0 ∷ 8 ∷ 0 ∷ 0 ∷ 0 ∷ 4 ∷ 0 ∷ 0 ∷ 0 ∷ 4 ∷ []))) 2;
      gives = got (refused 9 None) [] [] [];
    }
    -- 9 before 7
    ∷ record {
      call = read_tree (joined_p3 ++ (places_p3 ++ (5 ∷ 0 ∷ 12 ∷ 0 ∷ 0 ∷ 0 ∷ 4 ∷ 0 ∷ 0 ∷ 0 ∷ 5 ∷ 0 ∷ 0 ∷ 0 ∷ 0 ∷ []))) 1;
      gives = got (refused 9 (Some 1)) [] [] [];
    }
    -- 7: a buffer one too short
    ∷ record {
      call = read_tree (joined_p3 ++ (places_p3 ++ (5 ∷ 0 ∷ 12 ∷ 0 ∷ 0 ∷ 0 ∷ 4 ∷ 0 ∷ 0 ∷ 0 ∷ 4 ∷ 0 ∷ 0 ∷ 0 ∷ 0 ∷ []))) 1;
      gives = got (refused 7 None) [] [] [];
    }
    -- 6: the pair names node 2, its own
    ∷ record {
      call = read_joined (1 ∷ 0 ∷ 1 ∷ 1 ∷ 2 ∷ 0 ∷ 16 ∷ 0 ∷ 0 ∷ 0 ∷ 0 ∷ 0 ∷ 0 ∷ 0 ∷ 0 ∷ 0 ∷ 0 ∷ 0 ∷ 4 ∷ 0 ∷ 0 ∷ 0 ∷ 0 ∷ 3 ∷ 0 ∷ 4 ∷ 0 ∷ 0 ∷ 0 ∷ 2 ∷ []) 2;
      gives = got (refused 6 (Some 0)) [] [] [];
    }
    ∷ []
