-- What a reader's answer says of the check of its file, where the buffers hold 512 sinks.
use mathlib.Core.Path.{◌≡◌, refl, sym, ap, ◌∙◌}
use mathlib.Core.List.{List}
use Prim.Native.Nat.{ℕ, ◌≤◌}
use native.Mathlib.Omega.{arith}
use borrow.Author.Tests.{le-ltb}
use lib.IntN.{ℤ}
use lib.ListN.{length, take, drop, replicate, length-append}
use Rattle.std.specs.Prelude.{Result, Ok, Err}
use Rattle.std.proofs.lemmas.List.{take-replicate}
use Rattle.lists.proofs.Front.{front_part}
use Rattle.plane.specs.Said.{told}
use Rattle.plane.proofs.Answered.{told_once}
use Rattle.plane.specs.Sinks.{prompt, check_sinks}
use Rattle.plane.specs.declared.refusal.Refusal.{Refusal}
use Rattle.plane.proofs.Checks.{accepted, both_pass}
use Rattle.plane.specs.Refusals.{Checked}
use Rattle.fields.specs.Form.{form}
use Rattle.house.specs.Reading.{check_sink_file, xs_in, ys_in, ReadsSinks}
use Rattle.lines.specs.Parts.{Sinked}

pub sinked : (f : List ℕ) → check_sink_file f ≡ Ok tt → Sinked (xs_in f) (ys_in f) (prompt (xs_in f))
unfolding check_sink_file
sinked f e =
    let a = accepted 512 (xs_in f) (ys_in f) (prompt (xs_in f)) (both_pass (form 2 f) (check_sinks 512 (xs_in f) (ys_in f) (prompt (xs_in f))) e).1 in
    record { ranged = a.ranged; some = a.some; few = a.few }

module _ (f : List ℕ) {xs ys xs' ys' : List ℤ} (said : Result ℕ Refusal) (m : ReadsSinks (check_sink_file f) (xs_in f) (ys_in f) xs ys (told said) xs' ys') (lx : length xs ≡ 512) (ly : length ys ≡ 512) where
  -- the answer without the rooms, which suffice
  abbrev said_by : Checked → Result ℕ Refusal
  said_by (Ok u) = Ok (length (xs_in f))
  said_by (Err r) = Err r

  said_is : said ≡ said_by (check_sink_file f)
  said_is = go (check_sink_file f) refl
    where
      go : (c : Checked) → check_sink_file f ≡ c → said ≡ said_by c
      go (Ok u) e = told_once said (Ok (length (xs_in f))) (m.answers ∙ rw (e, lx, ly, le-ltb 512 (length (xs_in f)) (sinked f e).few))
      go (Err r) e = told_once said (Err r) (m.answers ∙ rw e)

  pub refused_is : {r : Refusal} → said ≡ Err r → check_sink_file f ≡ Err r
  refused_is {r} q = go (check_sink_file f) refl
    where
      go : (c : Checked) → check_sink_file f ≡ c → check_sink_file f ≡ Err r
      go (Ok u) e = let z : ◌≡◌ {A = Result ℕ Refusal} (Err r) (Ok (length (xs_in f))) = rw (e, q) at said_is in absurd (cc)
      go (Err r') e = let z : ◌≡◌ {A = Result ℕ Refusal} (Err r) (Err r') = rw (e, q) at said_is in let i : r ≡ r' = cc in rw e (ap Err (sym i))

  pub record Taken (n : ℕ) : Type 0 where
    pub fine : check_sink_file f ≡ Ok tt
    pub counts : n ≡ length (xs_in f)
    pub takes_x : take n xs' ≡ xs_in f
    pub takes_y : take n ys' ≡ ys_in f
    pub takes_none : take {A = ℕ} n (replicate 512 0) ≡ prompt (xs_in f)
    pub few : n ≤ 512
    pub room_x : n ≤ length xs'
    pub room_y : n ≤ length ys'

  pub taken_is : {n : ℕ} → said ≡ Ok n → Taken n
  taken_is {n} q = go (check_sink_file f) refl
    where
      go : (c : Checked) → check_sink_file f ≡ c → Taken n
      go (Err r) e = let z : ◌≡◌ {A = Result ℕ Refusal} (Ok n) (Err r) = rw (e, q) at said_is in absurd (cc)
      go (Ok u) e =
          let z : ◌≡◌ {A = Result ℕ Refusal} (Ok n) (Ok (length (xs_in f))) = rw (e, q) at said_is in
          let i : n ≡ length (xs_in f) = cc in
          let a = (sinked f e).ranged.alike in
          let l = (sinked f e).few in
          record {
            fine = e;
            counts = i;
            takes_x = front_part (xs_in f) xs n (rw q at m.writes_x) (sym i);
            takes_y = front_part (ys_in f) ys n (rw q at m.writes_y) (sym a ∙ sym i);
            takes_none = take-replicate n 512 0 (rw i l) ∙ ap (λ (k : ℕ). replicate k 0) i;
            few = rw i l;
            room_x = rw (rw q at m.writes_x, length-append (xs_in f) (drop (length (xs_in f)) xs)) (omega arith);
            room_y = rw (rw q at m.writes_y, length-append (ys_in f) (drop (length (ys_in f)) ys)) (omega arith);
          }
