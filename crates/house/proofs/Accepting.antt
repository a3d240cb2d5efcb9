-- What an accepted call has shown, and what a call gives where nothing is refused: for the three writers, for the reader of sinks, and for the two readers of joins.
use mathlib.Core.Path.{◌≡◌, refl, ap, ◌∙◌}
use mathlib.Core.List.{List}
use Prim.Native.Nat.{ℕ, ◌≤◌}
use borrow.Author.Tests.{le-ltb}
use Rattle.std.specs.Prelude.{Ok}
use lib.IntN.{ℤ}
use lib.ListN.{length, take}
use Rattle.lists.specs.Grow.{front}
use Rattle.lists.proofs.Front.{front_part}
use Rattle.plane.specs.Said.{Said, if_answered}
use Rattle.plane.specs.Said.Said.{answered}
use Rattle.plane.proofs.Answered.{after_answered}
use Rattle.plane.specs.Refusals.{Checked, and_then}
use Rattle.plane.proofs.Checks.{both_pass}
use Rattle.house.specs.Writing.{room_for, Writes}
use Rattle.house.specs.Reading.{ReadsSinks, ReadsJoins}

-- what lies in a buffer that was handed so many entries
read_front : {A : Type 0} {n : ℕ} {said : Said ℕ} {l' : List A} (new old : List A) → said ≡ answered n → l' ≡ front (if_answered said new) old → take (length new) l' ≡ new
read_front {A} new old e w = front_part new old (length new) (w ∙ ap (λ (s : Said ℕ). front (if_answered s new) old) e) refl

-- ---- writing: the answer, and the file as it lies in the buffer
pub record FileAgain (file : List ℕ) (said : Said ℕ) (out' : List ℕ) : Type 0 where
  pub answers : said ≡ answered (length file)
  pub bytes : take (length file) out' ≡ file

module _ {checked : Checked} {file out out' : List ℕ} where
  file_again : {said : Said ℕ} → Writes checked file out said out' → said ≡ answered (length file) → FileAgain file said out'
  file_again w e =
      record { answers = e; bytes = front_part file out (length file) (w.writes ∙ ap (λ (s : Said ℕ). front (if_answered s file) out) e) refl }

  pub writes_file : {said : Said ℕ} → checked ≡ Ok tt → length file ≤ length out → Writes checked file out said out' → FileAgain file said out'
  writes_file fine room w = file_again w (w.answers ∙ rw (fine, le-ltb (length out) (length file) room))

  -- what is said to be written is the file, the whole of it
  pub wrote : {k : ℕ} → Writes checked file out (answered k) out' → (checked ≡ Ok tt) × (k ≡ length file) × (take k out' ≡ file)
  wrote {k} w =
      let room = room_for (length file) (length out) in
      let (a, e) = after_answered (and_then checked room) (length file) k w.answers in
      ((both_pass checked room a).0, e, rw e (file_again w (ap answered e)).bytes)

-- ---- reading sinks: the answer, and the sinks as they lie in the buffers
pub record SinksAgain (xs ys : List ℤ) (said : Said ℕ) (bx' by' : List ℤ) : Type 0 where
  pub answers : said ≡ answered (length xs)
  pub same_x : take (length xs) bx' ≡ xs
  pub same_y : take (length xs) by' ≡ ys

module _ {checked : Checked} {fx fy bx by bx' by' : List ℤ} (alike : length fx ≡ length fy) where
  sinks_again : {said : Said ℕ} → ReadsSinks checked fx fy bx by said bx' by' → said ≡ answered (length fx) → SinksAgain fx fy said bx' by'
  sinks_again r e = record { answers = e; same_x = read_front fx bx e r.writes_x; same_y = rw alike (read_front fy by e r.writes_y) }

  pub reads_sinks : {said : Said ℕ} → checked ≡ Ok tt → length fx ≤ length bx → length fx ≤ length by → ReadsSinks checked fx fy bx by said bx' by' → SinksAgain fx fy said bx' by'
  reads_sinks fine h g r =
      sinks_again r (r.answers ∙ rw (fine, le-ltb (length bx) (length fx) h, le-ltb (length by) (length fx) g))

  pub got_sinks : {n : ℕ} → ReadsSinks checked fx fy bx by (answered n) bx' by' → (checked ≡ Ok tt) × (n ≡ length fx) × (take n bx' ≡ fx) × (take n by' ≡ fy)
  got_sinks {n} r =
      let room = and_then (room_for (length fx) (length bx)) (room_for (length fx) (length by)) in
      let (a, e) = after_answered (and_then checked room) (length fx) n r.answers in
      let s = sinks_again r (ap answered e) in
      ((both_pass checked room a).0, e, rw e s.same_x, rw e s.same_y)

-- ---- reading sinks and joins: likewise
pub record JoinsAgain (xs ys : List ℤ) (js : List ℕ) (said : Said ℕ) (bx' by' : List ℤ) (bj' : List ℕ) : Type 0 where
  pub answers : said ≡ answered (length xs)
  pub same_x : take (length xs) bx' ≡ xs
  pub same_y : take (length xs) by' ≡ ys
  pub same_j : take (length js) bj' ≡ js

module _ {checked : Checked} {fx fy : List ℤ} {fj : List ℕ} {bx by bx' by' : List ℤ} {bj bj' : List ℕ} (alike : length fx ≡ length fy) where
  joins_again : {said : Said ℕ} → ReadsJoins checked fx fy fj bx by bj said bx' by' bj' → said ≡ answered (length fx) → JoinsAgain fx fy fj said bx' by' bj'
  joins_again r e =
      record {
        answers = e;
        same_x = read_front fx bx e r.writes_x;
        same_y = rw alike (read_front fy by e r.writes_y);
        same_j = read_front fj bj e r.writes_j;
      }

  pub reads_joins : {said : Said ℕ} → checked ≡ Ok tt → length fx ≤ length bx → length fx ≤ length by → length fj ≤ length bj → ReadsJoins checked fx fy fj bx by bj said bx' by' bj' → JoinsAgain fx fy fj said bx' by' bj'
  reads_joins fine h g k r =
      joins_again r (r.answers ∙ rw (fine, le-ltb (length bx) (length fx) h, le-ltb (length by) (length fx) g, le-ltb (length bj) (length fj) k))

  pub got_joins : {n : ℕ} → ReadsJoins checked fx fy fj bx by bj (answered n) bx' by' bj' → (checked ≡ Ok tt) × (n ≡ length fx) × (take n bx' ≡ fx) × (take n by' ≡ fy) × (take (length fj) bj' ≡ fj)
  got_joins {n} r =
      let room = and_then (room_for (length fx) (length bx)) (and_then (room_for (length fx) (length by)) (room_for (length fj) (length bj))) in
      let (a, e) = after_answered (and_then checked room) (length fx) n r.answers in
      let s = joins_again r (ap answered e) in
      ((both_pass checked room a).0, e, rw e s.same_x, rw e s.same_y, s.same_j)
