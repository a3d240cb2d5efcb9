-- Joined files: what is written is read back, and what is accepted is written back to the same bytes.
use mathlib.Core.Path.{◌≡◌, refl, sym, ap, ◌∙◌}
use mathlib.Core.List.{List, [], ◌∷◌}
use Prim.Native.Nat.{ℕ, ◌+◌, ◌/◌, ◌%◌, ◌<◌}
use native.Mathlib.Omega.{arith}
use borrow.Author.Tests.{eq-eqb, eqb-true, not-false}
use Rattle.std.specs.Prelude.{Ok}
use lib.Dec.{eqb}
use lib.IntN.{ℤ}
use lib.ListN.{length, get_or}
use Rattle.plane.specs.Sinks.{prompt}
use Rattle.orders.specs.Joins.{left, right}
use Rattle.orders.specs.Sound.{Ordered, Sound}
use Rattle.orders.proofs.Accepted.{in_pair}
use Rattle.fields.specs.Bytes.{Bytes}
use Rattle.fields.specs.Fields.{fields, version, places, numbers, firsts, seconds, numbers_in}
use Rattle.house.specs.Files.{joined_file}
use Rattle.fields.specs.Form.{length_at, next_at, value_at, value_of, past, form}
use Rattle.house.specs.Reading.{xs_in, ys_in, joins_in}
use Rattle.fields.proofs.Values.{length-numbers, firsts_back, seconds_back, numbers_back, numbers_made}
use Rattle.fields.proofs.Standing.{Stands, Whole, more, whole}
use Rattle.fields.proofs.Fieldwise.{Fair, none, also, written_form, made, part_bytes, value_long}
use Rattle.house.proofs.RoundTrip.{wide_x, wide_y, fair-version, fair-sinks, version_back, sinks_value}

-- a node number fits 2 bytes
pub small_nodes : (n : ℕ) (js : List ℕ) → Ordered n js → (j : ℕ) → j < length js → get_or js j 0 < 65536
small_nodes n js o j h =
    let c = o.valid.count in
    in_pair (λ j. get_or js j 0 < 65536) j
    (λ e. let q : get_or js j 0 ≡ left js (j / 2) = ap (λ (k : ℕ). get_or js k 0) e in omega (arith, q, o.few, o.valid.low_left (j / 2) (omega arith)))
    (λ e. let q : get_or js j 0 ≡ right js (j / 2) = ap (λ (k : ℕ). get_or js k 0) e in omega (arith, q, o.few, o.valid.low_right (j / 2) (omega arith)))

pub fair-nodes : (n : ℕ) (js : List ℕ) → Ordered n js → Fair 3 (numbers 2 js)
fair-nodes n js o =
    let l = length-numbers 2 js in
    let c = o.valid.count in
    let f = o.few in
    record { long = simp (eq-eqb (length (numbers 2 js) % 4) 0 (omega arith)); small = omega arith; version = λ rest. refl }

pub record JoinsBack (xs ys : List ℤ) (js : List ℕ) : Type 0 where
  pub formed : form 3 (joined_file xs ys js) ≡ Ok tt
  pub same_x : xs_in (joined_file xs ys js) ≡ xs
  pub same_y : ys_in (joined_file xs ys js) ≡ ys
  pub same_j : joins_in (joined_file xs ys js) ≡ js

pub joins_back : (xs ys : List ℤ) (js : List ℕ) → Sound xs ys (prompt xs) js → JoinsBack xs ys js
unfolding joined_file past
joins_back xs ys js s =
    let o = s.joins in
    let f = o.few in
    let vs = version ∷ places xs ys ∷ numbers 2 js ∷ [] in
    let (a, b) = written_form (fields 1 vs) [] 0 1 vs refl refl (also fair-version (also (fair-sinks xs ys (omega arith)) (also (fair-nodes (length xs) js o) none))) in
    let e : value_of (joined_file xs ys js) 2 ≡ places xs ys = cc in
    let g : value_of (joined_file xs ys js) 3 ≡ numbers 2 js = cc in
    record {
      formed = a;
      same_x = ap firsts e ∙ firsts_back xs ys (wide_x xs ys s.sinks);
      same_y = ap seconds e ∙ seconds_back xs ys (wide_y xs ys s.sinks) s.sinks.alike;
      same_j = ap (numbers_in 2) g ∙ numbers_back 2 js (omega arith) (small_nodes (length xs) js o);
    }

pub nodes_value : (f : List ℕ) → Bytes f → (at : ℕ) → Stands f at 3 → numbers 2 (numbers_in 2 (value_at f at)) ≡ value_at f at
nodes_value f b at s =
    let l : length_at f at % 4 ≡ 0 = eqb-true (length_at f at % 4) 0 (not-false (eqb (length_at f at % 4) 0) s.long) in
    let n = value_long f b at 3 s in
    numbers_made 2 (value_at f at) (part_bytes f (length_at f at) (at + 3) b) (omega arith)

pub joins_kept : (f : List ℕ) → Bytes f → form 3 f ≡ Ok tt → joined_file (xs_in f) (ys_in f) (joins_in f) ≡ f
unfolding joined_file past
joins_kept f b q = go (whole f 3 1 0 q)
  where
    go : Whole f 3 1 0 → joined_file (xs_in f) (ys_in f) (joins_in f) ≡ f
    go (more s (more t (more u w))) =
        rw (sinks_value f b (next_at f 0) t, nodes_value f b (next_at f (next_at f 0)) u, sym (version_back f b 0 s))
        (sym (made f b 3 1 0 (more s (more t (more u w)))))
