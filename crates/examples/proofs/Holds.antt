-- The table of checked examples holds: every row but one by computing both sides.
use mathlib.Core.Path.{◌≡◌, refl, sym, ap, ap₂, ◌∙◌}
use mathlib.Core.List.{List, [], ◌∷◌, ◌++◌, map, map-append}
use Prim.Native.Nat.{ℕ, ◌<◌}
use lib.IntN.{ℤ, pos, negsuc}
use lib.ListN.{replicate, get_or-replicate}
use lib.Count.{ones, ones_in, count_trailing_zeros}
use Rattle.zero_skew.specs.Box.{greatest, least, diameter}
use Rattle.zero_skew.specs.Order.{sinks_of}
use Rattle.plane.specs.Sinks.{sinks_at, check_places, check_sinks}
use Rattle.plane.specs.Bounds.{box_answer}
use Rattle.orders.specs.Joins.{check_joins, check_order}
use Rattle.orders.specs.Nodes.{climb, node, parent}
use Rattle.embedding.specs.Embedding.{answer}
use Rattle.partners.specs.Closest.{best}
use Rattle.nearest.specs.Nearest as nearest
use Rattle.nearest.specs.Calls.{check_nearest, tree_answer}
use Rattle.subsets.specs.Subsets.{rising, keep, sinks_in_subset, diam, is_part, splits}
use Rattle.subsets.specs.Table.{steps_of, steps, blanks, table_after}
use Rattle.subsets.specs.Kept.{first_or, kept_part, kept_in, join_count, node_in, pairs_of}
use Rattle.search.specs.Rooms.{check_rooms, check_search}
use Rattle.search.specs.Searching.{joins_found, found as foundBy}
use Rattle.plane.specs.Said.{after}
use Rattle.fields.specs.Bytes.{big, number_at}
use Rattle.fields.specs.Fields.{field, records, places, numbers, firsts, seconds, numbers_in}
use Rattle.fields.specs.Form.{body_at, field_at, form_from, past}
use Rattle.house.specs.Files.{sink_file, joined_file}
use Rattle.house.specs.Reading.{check_sink_file, check_joined_file}
use Rattle.tree_files.specs.Trees.{tree_file, check_nodes, check_tags, check_tree_file}
use Rattle.lines.specs.Brackets.{brackets}
use Rattle.text.specs.Decimal.{digits, decimal, signed}
use Rattle.lines.specs.Lines.{first_line, second_line, parent_field, node_line, node_lines, tree_text, refusal_line}
use Rattle.printing.specs.Program as program
use Rattle.std.specs.Prelude.{Ok}
use Rattle.plane.proofs.Checks.{accepted}
use Rattle.search.specs.declared.search.Found.{Found}
use Rattle.search.proofs.OnePlace.{one_place_found}
use Rattle.examples.specs.Calls.{Outcome}
use Rattle.examples.specs.Calls.Outcome.{told}
use Rattle.examples.specs.Example.{outcome, called, given}
use Rattle.examples.specs.Trees.{trees}
use Rattle.examples.specs.Limits.{limits}
use Rattle.examples.specs.Ties.{ties}
use Rattle.examples.specs.Refused.{refusals}
use Rattle.examples.specs.Files.{files}
use Rattle.examples.specs.Texts.{texts}
use Rattle.examples.specs.Delays.{delayed}
use Rattle.examples.specs.Table.{computed, twelve, table}

computed_holds : map called computed ≡ map given computed
unfolding computed trees limits ties refusals files texts delayed called given outcome check_places check_sinks box_answer answer climb node parent greatest least diameter sinks_of check_joins check_order best nearest.joins nearest.order check_nearest tree_answer rising keep sinks_in_subset diam is_part splits steps_of steps blanks table_after first_or kept_part kept_in join_count node_in pairs_of check_rooms check_search joins_found foundBy count_trailing_zeros ones ones_in big number_at field records places numbers firsts seconds numbers_in sink_file joined_file tree_file body_at field_at form_from past check_sink_file check_joined_file check_nodes check_tags check_tree_file brackets digits decimal signed first_line second_line parent_field node_line node_lines tree_text refusal_line program.joins_of program.lines_of program.answer_text program.text_of
computed_holds = refl

-- ---- twelve pins on one place
abbrev xs : List ℤ
xs = replicate 12 (pos 3)

abbrev ys : List ℤ
ys = replicate 12 (negsuc 4)

abbrev none : List ℕ
none = replicate 12 0

passed : check_sinks 12 xs ys none ≡ Ok tt
unfolding check_places check_sinks
passed = refl

same : (i j : ℕ) → i < 12 → j < 12 → (sinks_at xs ys none).at i ≡ (sinks_at xs ys none).at j
same i j hi hj = stands i hi ∙ sym (stands j hj)
  where
    stands : (i : ℕ) → i < 12 → (sinks_at xs ys none).at i ≡ record { x = pos 3; y = negsuc 4 }
    stands i h = λ k. record { x = get_or-replicate 12 i (pos 3) (pos 0) h k; y = get_or-replicate 12 i (negsuc 4) (pos 0) h k }

twelve_holds : called twelve ≡ given twelve
unfolding called given twelve outcome check_search check_places check_sinks check_rooms
twelve_holds =
    let a = accepted 12 xs ys none passed in
    ap (λ (f : Found). told (after (check_search xs ys none 4096 22 23 23 23) f)) (one_place_found xs ys none a.ranged a.some a.few same 0 (λ i h. get_or-replicate {A = ℕ} 12 i 0 0 h) 261625)

pub table_holds : map called table ≡ map given table
unfolding table
table_holds =
    map-append called computed (twelve ∷ [])
    ∙ ap₂ (λ (a : List Outcome) (b : Outcome). a ++ (b ∷ [])) computed_holds twelve_holds
    ∙ sym (map-append given computed (twelve ∷ []))
