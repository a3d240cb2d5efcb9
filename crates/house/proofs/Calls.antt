-- Two calls one after the other, from their contracts alone: what was written is read, and what was read is written.
use mathlib.Core.Path.{◌≡◌, sym, ◌∙◌}
use mathlib.Core.List.{List}
use Prim.Native.Nat.{ℕ, ◌-◌, ◌*◌, ◌≤◌}
use native.Mathlib.Omega.{arith}
use Rattle.std.specs.Prelude.{Ok}
use lib.IntN.{ℤ}
use lib.ListN.{length, take}
use Rattle.plane.specs.Said.{Said}
use Rattle.plane.specs.Said.Said.{answered}
use Rattle.plane.specs.Sinks.{prompt, check_sinks}
use Rattle.plane.proofs.Checks.{both_pass, accepted}
use Rattle.orders.specs.Joins.{check_order}
use Rattle.orders.proofs.Bounded.{order-sound}
use Rattle.fields.specs.Bytes.{Bytes}
use Rattle.house.specs.Files.{sink_file, joined_file}
use Rattle.fields.specs.Form.{form, value_of}
use Rattle.house.specs.Writing.{Writes}
use Rattle.house.specs.Reading.{xs_in, ys_in, joins_in, check_sink_file, check_joined_file, ReadsSinks, ReadsJoins}
use Rattle.fields.proofs.Values.{length_firsts, length_seconds}
use Rattle.house.proofs.RoundTrip.{sinks_back, sinks_kept}
use Rattle.house.proofs.JoinsTrip.{joins_back, joins_kept}
use Rattle.house.proofs.Accepting.{FileAgain, writes_file, wrote, SinksAgain, reads_sinks, got_sinks, JoinsAgain, reads_joins, got_joins}

-- ---- sink files
sinks_fine : (xs ys : List ℤ) → check_sinks 512 xs ys (prompt xs) ≡ Ok tt → check_sink_file (sink_file xs ys) ≡ Ok tt
unfolding check_sink_file
sinks_fine xs ys q = let b = sinks_back xs ys q in rw (b.formed, b.same_x, b.same_y) q

-- written, then read: the lent bytes are what the writer said, and each buffer has room for the sinks
pub sinks_written_read : (xs ys : List ℤ) (out out' : List ℕ) (k : ℕ) → Writes (check_sinks 512 xs ys (prompt xs)) (sink_file xs ys) out (answered k) out'
    → (f : List ℕ) → f ≡ take k out' → (bx by bx' by' : List ℤ) (said : Said ℕ) → length xs ≤ length bx → length ys ≤ length by → ReadsSinks (check_sink_file f) (xs_in f) (ys_in f) bx by said bx' by' → SinksAgain xs ys said bx' by'
sinks_written_read xs ys out out' k w f lent bx by bx' by' said hx hy r =
    let (q, e, held) = wrote w in
    let b = sinks_back xs ys q in
    let alike = (accepted 512 xs ys (prompt xs) q).ranged.alike in
    reads_sinks alike (sinks_fine xs ys q) hx (omega (arith, alike)) (rw (lent ∙ held, b.same_x, b.same_y) at r)

-- as many x as y stand in any file
pub alike_in : (f : List ℕ) → length (xs_in f) ≡ length (ys_in f)
alike_in f = length_firsts (value_of f 2) ∙ sym (length_seconds (value_of f 2))

-- read, then written: the lent lists are what the reader said, and the buffer has room for the file
pub sinks_read_written : (f : List ℕ) → Bytes f → (bx by bx' by' : List ℤ) (n : ℕ) → ReadsSinks (check_sink_file f) (xs_in f) (ys_in f) bx by (answered n) bx' by'
    → (xs ys : List ℤ) → xs ≡ take n bx' → ys ≡ take n by' → (out out' : List ℕ) (said : Said ℕ) → length f ≤ length out → Writes (check_sinks 512 xs ys (prompt xs)) (sink_file xs ys) out said out' → FileAgain f said out'
unfolding check_sink_file
sinks_read_written f b bx by bx' by' n r xs ys lent-x lent-y out out' said room w =
    let (q, e, x, y) = got_sinks (alike_in f) r in
    let (formed, fine) = both_pass (form 2 f) _ q in
    writes_file fine room (rw (lent-x ∙ x, lent-y ∙ y, sinks_kept f b formed) at w)

-- ---- joined files
-- so many node numbers as the sinks of an accepted file have
pub joins_lent : (f : List ℕ) (n : ℕ) (bj' : List ℕ) → check_order (xs_in f) (ys_in f) (prompt (xs_in f)) (joins_in f) ≡ Ok tt → n ≡ length (xs_in f) → take (2 * (n - 1)) bj' ≡ take (length (joins_in f)) bj'
joins_lent f n bj' q e =
    let c : length (joins_in f) ≡ 2 * (length (xs_in f) - 1) = (order-sound (xs_in f) (ys_in f) (prompt (xs_in f)) (joins_in f) q).joins.valid.count in
    rw (e, c)

joined_fine : (xs ys : List ℤ) (js : List ℕ) → check_order xs ys (prompt xs) js ≡ Ok tt → check_joined_file (joined_file xs ys js) ≡ Ok tt
unfolding check_joined_file
joined_fine xs ys js q = let b = joins_back xs ys js (order-sound xs ys (prompt xs) js q) in rw (b.formed, b.same_x, b.same_y, b.same_j) q

pub joined_written_read : (xs ys : List ℤ) (js out out' : List ℕ) (k : ℕ) → Writes (check_order xs ys (prompt xs) js) (joined_file xs ys js) out (answered k) out'
    → (f : List ℕ) → f ≡ take k out' → (bx by bx' by' : List ℤ) (bj bj' : List ℕ) (said : Said ℕ) → length xs ≤ length bx → length ys ≤ length by → length js ≤ length bj → ReadsJoins (check_joined_file f) (xs_in f) (ys_in f) (joins_in f) bx by bj said bx' by' bj' → JoinsAgain xs ys js said bx' by' bj'
joined_written_read xs ys js out out' k w f lent bx by bx' by' bj bj' said hx hy hj r =
    let (q, e, held) = wrote w in
    let s = order-sound xs ys (prompt xs) js q in
    let b = joins_back xs ys js s in
    let alike = s.sinks.alike in
    reads_joins alike (joined_fine xs ys js q) hx (omega (arith, alike)) hj (rw (lent ∙ held, b.same_x, b.same_y, b.same_j) at r)

pub joined_read_written : (f : List ℕ) → Bytes f → (bx by bx' by' : List ℤ) (bj bj' : List ℕ) (n : ℕ) → ReadsJoins (check_joined_file f) (xs_in f) (ys_in f) (joins_in f) bx by bj (answered n) bx' by' bj'
    → (xs ys : List ℤ) (js : List ℕ) → xs ≡ take n bx' → ys ≡ take n by' → js ≡ take (2 * (n - 1)) bj' → (out out' : List ℕ) (said : Said ℕ) → length f ≤ length out → Writes (check_order xs ys (prompt xs) js) (joined_file xs ys js) out said out' → FileAgain f said out'
unfolding check_joined_file
joined_read_written f b bx by bx' by' bj bj' n r xs ys js lent-x lent-y lent-j out out' said room w =
    let (q, e, x, y, j) = got_joins (alike_in f) r in
    let (formed, fine) = both_pass (form 3 f) _ q in
    writes_file fine room (rw (lent-x ∙ x, lent-y ∙ y, lent-j ∙ joins_lent f n bj' fine e ∙ j, joins_kept f b formed) at w)
