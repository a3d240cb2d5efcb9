-- Document 01, "Table of checked examples": P1 to P12 and further rows, as one table under one statement, `table_holds` (proofs/Holds.antt).
use Rattle.std.specs.Prelude.{true, List, [], ◌∷◌, ◌++◌, pos, negsuc, replicate}
use Rattle.plane.specs.Said.Said.{answered}
use Rattle.examples.specs.Calls.Call.{say}
use Rattle.examples.specs.Calls.Outcome.{told}
use Rattle.examples.specs.Example.{Row}
use Rattle.examples.specs.Trees.{trees}
use Rattle.examples.specs.Limits.{limits}
use Rattle.examples.specs.Ties.{ties}
use Rattle.examples.specs.Refused.{refusals}
use Rattle.examples.specs.Files.{files}
use Rattle.examples.specs.Texts.{texts}
use Rattle.examples.specs.Delays.{delayed}

-- the rows that the prover computes
unfoldable pub computed : List Row
computed = trees ++ (limits ++ (ties ++ (refusals ++ (files ++ (texts ++ delayed)))))

-- and one with too many steps for that. All twelve pins on one place: proven, and no wire
unfoldable pub twelve : Row
twelve =
    record {
      call = say (replicate 12 (pos 3)) (replicate 12 (negsuc 4)) (replicate 12 0) 261625 4096;
      gives = told (answered (record { total = 0; steps = 261625; proven = true }));
    }

-- P1 to P12, and the further rows
unfoldable pub table : List Row
table = computed ++ (twelve ∷ [])
