-- The pairs of the program's tree, and what is printed for sinks and for an input.
use mathlib.Core.Path.{◌≡◌, refl}
use mathlib.Core.Bool.{Bool, true, false}
use mathlib.Core.List.{List}
use Prim.Native.Nat.{ℕ, ◌-◌, ◌*◌, ◌≤◌, ◌<◌}
use borrow.Author.Tests.{le-ltb, lt-ltb, le-leb, lt-leb, leb-true, leb-false}
use lib.Dec.{leb}
use lib.IntN.{ℤ}
use lib.ListN.{length, take}
use Rattle.lists.specs.Grow.{front}
use Rattle.lists.proofs.Front.{front_part}
use Rattle.zero_skew.specs.Plane.{Sinks}
use Rattle.plane.specs.Sinks.{sinks_at, prompt}
use Rattle.plane.specs.declared.refusal.Refusal.{Refusal}
use Rattle.std.specs.Prelude.{Ok, Err}
use Rattle.orders.specs.Sound.{Ordered}
use Rattle.nearest.specs.Calls.{order_at}
use Rattle.nearest.specs.Nearest.{order}
use Rattle.nearest.proofs.Validity.{order-valid}
use Rattle.subsets.specs.Best.{step_count}
use Rattle.search.specs.Searching.{joins_found}
use Rattle.search.proofs.Finding.{found_ordered}
use Rattle.house.specs.Reading.{check_sink_file, xs_in, ys_in}
use Rattle.lines.specs.Lines.{refusal_line, too_long}
use Rattle.printing.specs.Program.{tree_lines, joins_of, lines_of, answer_text, text_of}
use Rattle.lines.specs.Parts.{Sinked}

-- the pairs of the program's tree join all sinks, and the buffer that they were written into holds them
module _ (xs ys : List ℤ) (delays : List ℕ) (h : Sinked xs ys delays) where
  abbrev here : Sinks
  here = sinks_at xs ys delays

  pub joins_small : length xs ≤ 12 → joins_of here ≡ joins_found here (step_count (length xs))
  unfolding joins_of
  joins_small l = rw (le-leb (length xs) 12 l)

  pub joins_large : 12 < length xs → joins_of here ≡ order_at xs ys delays
  unfolding joins_of
  joins_large l = rw (lt-leb (length xs) 12 l)

  pub joins_ordered : Ordered (length xs) (joins_of here)
  joins_ordered = go (leb (length xs) 12) refl
    where
      go : (t : Bool) → leb (length xs) 12 ≡ t → Ordered (length xs) (joins_of here)
      go true e =
          let l = leb-true (length xs) 12 e in
          rw (joins_small l) (found_ordered xs ys delays (step_count (length xs)) h.ranged h.some l)
      go false e =
          rw (joins_large (leb-false (length xs) 12 e)) record { some = h.some; few = h.few; valid = order-valid here (length xs) h.some }

  pub joins_taken : (js js' : List ℕ) → js' ≡ front (joins_of here) js → take (2 * (length xs - 1)) js' ≡ joins_of here
  joins_taken js js' e = front_part (joins_of here) js (2 * (length xs - 1)) e joins_ordered.valid.count

-- ---- what is printed for sinks, and for an input

-- up to twelve sinks: the lines of the tree that the search finds, and that it is proven
pub lines_small : (s : Sinks) → s.n ≤ 12 → lines_of s ≡ tree_lines s (joins_found s (step_count s.n)) true
unfolding lines_of joins_of
lines_small s h = rw (le-leb s.n 12 h)

-- more: the lines of the tree that is joined by least diameter, and that it is greedy
pub lines_large : (s : Sinks) → 12 < s.n → lines_of s ≡ tree_lines s (order s s.n) false
unfolding lines_of joins_of
lines_large s h = rw (lt-leb s.n 12 h)

pub text_long : (f : List ℕ) → 32768 < length f → text_of f ≡ too_long
unfolding text_of
text_long f h = rw (lt-ltb 32768 (length f) h)

pub text_refused : (f : List ℕ) {r : Refusal} → length f ≤ 32768 → check_sink_file f ≡ Err r → text_of f ≡ refusal_line r
unfolding text_of answer_text
text_refused f {r} h e = rw (le-ltb 32768 (length f) h, e)

pub text_lines : (f : List ℕ) → length f ≤ 32768 → check_sink_file f ≡ Ok tt → text_of f ≡ lines_of (sinks_at (xs_in f) (ys_in f) (prompt (xs_in f)))
unfolding text_of answer_text
text_lines f h e = rw (le-ltb 32768 (length f) h, e)
