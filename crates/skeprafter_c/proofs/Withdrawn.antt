-- Document 02, Q-1: "5 is withdrawn and its number stays unused": no function for C says 5, whatever its answer.
use mathlib.Core.Path.{◌≡◌, refl, sym, ◌∙◌}
use mathlib.Core.List.{List}
use Prim.Native.Nat.{ℕ, ◌-◌, ◌*◌}
use native.Mathlib.Omega.{arith}
use lib.IntN.{ℤ}
use lib.ListN.{length, get_or}
use Rattle.plane.specs.Bounds.{box_answer}
use Rattle.plane.specs.Refusals.{Checked, number, place, and_then}
use Rattle.plane.specs.Said.{after}
use Rattle.plane.specs.Sinks.{check_sinks}
use Rattle.plane.specs.declared.refusal.Refusal.{Refusal}
use Rattle.std.specs.Prelude.{Option, Some, None, Ok, Err}
use Rattle.plane.proofs.Withdrawn.{never_five}
use Rattle.orders.specs.Joins.{check_order}
use Rattle.embedding.specs.Embedding.{check_room, answer}
use Rattle.nearest.specs.Calls.{check_nearest, tree_answer}
use Rattle.search.specs.Rooms.{check_search}
use Rattle.house.specs.Writing.{room_for}
use Rattle.skeprafter_c.specs.Words.{placed_words, words, no_value, one_value_word, found_values, refusal_words, answer_words}
use Rattle.search.specs.Searching.{search_answer}
use Rattle.house.specs.Writing.{write_answer}
use Rattle.house.specs.Reading.{sinks_answer, joins_answer}

-- the first of the six numbers is 5
abbrev SaysFive : List ℕ → Type 0
SaysFive said = get_or said 0 0 ≡ 5

first_word : (n : ℕ) (p : Option ℕ) → get_or (placed_words n p) 0 0 ≡ n
first_word n None = refl
first_word n (Some i) = refl

refusal_never : (r : Refusal) → SaysFive (refusal_words r) → ⊥
refusal_never r e = never_five r (sym (first_word (number r) (place r)) ∙ e)

-- after a check, and every answer is one
after_never : {A : Type 0} (values : A → List ℕ) (c : Checked) (a : A) → SaysFive (words values (after c a)) → ⊥
after_never values (Ok u) a e = omega (arith, e)
after_never values (Err r) a e = refusal_never r e

-- what is said of one more sink, and of joining
pub checked_never : (c : Checked) → SaysFive (answer_words no_value c) → ⊥
checked_never (Ok u) e = omega (arith, e)
checked_never (Err r) e = refusal_never r e

pub box_never : (xs ys : List ℤ) (delays : List ℕ) → SaysFive (words no_value (box_answer xs ys delays)) → ⊥
unfolding box_answer
box_never xs ys delays e = after_never no_value (check_sinks 512 xs ys delays) _ e

pub tree_never : (xs ys : List ℤ) (delays js : List ℕ) (ru rv rw : ℕ) → SaysFive (words one_value_word (answer xs ys delays js ru rv rw)) → ⊥
unfolding answer
tree_never xs ys delays js ru rv rw e = after_never one_value_word (and_then (check_order xs ys delays js) (check_room (2 * length xs - 1) ru rv rw)) _ e

pub nearest_never : (xs ys : List ℤ) (delays : List ℕ) (rj ru rv rw : ℕ) → SaysFive (words one_value_word (tree_answer xs ys delays rj ru rv rw)) → ⊥
unfolding tree_answer
nearest_never xs ys delays rj ru rv rw e = after_never one_value_word (and_then (check_nearest xs ys delays rj) (check_room (2 * length xs - 1) ru rv rw)) _ e

pub search_never : (xs ys : List ℤ) (delays : List ℕ) (budget rt rj ru rv rw : ℕ) → SaysFive (words found_values (search_answer xs ys delays budget rt rj ru rv rw)) → ⊥
search_never xs ys delays budget rt rj ru rv rw e = after_never found_values (check_search xs ys delays rt rj ru rv rw) _ e

pub written_never : (checked : Checked) (file : List ℕ) (room : ℕ) → SaysFive (words one_value_word (write_answer checked file room)) → ⊥
written_never checked file room e = after_never one_value_word (and_then checked (room_for (length file) room)) _ e

pub sinks_never : (checked : Checked) (fx : List ℤ) (rx ry : ℕ) → SaysFive (words one_value_word (sinks_answer checked fx rx ry)) → ⊥
sinks_never checked fx rx ry e = after_never one_value_word (and_then checked (and_then (room_for (length fx) rx) (room_for (length fx) ry))) _ e

pub joins_never : (checked : Checked) (fx : List ℤ) (fj : List ℕ) (rx ry rj : ℕ) → SaysFive (words one_value_word (joins_answer checked fx fj rx ry rj)) → ⊥
joins_never checked fx fj rx ry rj e = after_never one_value_word (and_then checked (and_then (room_for (length fx) rx) (and_then (room_for (length fx) ry) (room_for (length fj) rj)))) _ e
