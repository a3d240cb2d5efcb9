-- What is written is read back, and what is accepted is written back to the same bytes.
use mathlib.Core.Path.{◌≡◌, refl, sym, ap, ◌∙◌}
use mathlib.Core.List.{List, [], ◌∷◌}
use mathlib.Core.Logic.{⊎_elim}
use Prim.Native.Nat.{ℕ, ◌+◌, ◌%◌, ◌≤◌, ◌<◌}
use native.Mathlib.Omega.{arith}
use borrow.Author.Tests.{eq-eqb, eqb-true, not-false}
use Rattle.std.specs.Prelude.{Ok}
use lib.Dec.{eqb}
use lib.IntN.{ℤ, pos, negsuc}
use lib.ListN.{length, get_or, get_or-eq_default}
use lib.Seq.{drop-cons}
use mir.Syntax.{w32}
use mir.Val.{SFits}
use Rattle.lists.proofs.Tests.{or_lt}
use Rattle.measures.specs.Range.{Central}
use Rattle.plane.specs.Sinks.{prompt, check_sinks, Fitting}
use Rattle.plane.proofs.Checks.{accepted, fitting}
use Rattle.measures.proofs.Numbers.{lift_range}
use Rattle.fields.specs.Bytes.{Bytes}
use Rattle.fields.specs.Fields.{fields, version, places, firsts, seconds}
use Rattle.house.specs.Files.{sink_file}
use Rattle.fields.specs.Form.{length_at, next_at, value_at, value_of, past, form}
use Rattle.house.specs.Reading.{xs_in, ys_in}
use Rattle.fields.proofs.Values.{Wide, length_places, firsts_back, seconds_back, places_back}
use Rattle.fields.proofs.Scan.{one_byte}
use Rattle.fields.proofs.Standing.{Stands, Whole, more, whole}
use Rattle.fields.proofs.Fieldwise.{Fair, none, also, written_form, made, part_bytes, value_long}

-- ---- written values are fair
fits_near : (x : ℤ) → Central x → SFits w32 x
fits_near (pos n) t = record { sfits = omega (arith, lift_range (pos n) t) }
fits_near (negsuc n) t = record { sfits = omega (arith, lift_range (negsuc n) t) }

pub wide : (xs : List ℤ) → ((i : ℕ) → i < length xs → SFits w32 (get_or xs i (pos 0))) → Wide xs
wide xs h = record { fits = λ i. ⊎_elim (h i) (λ l. rw (get_or-eq_default xs (pos 0) {n = i} l) (record { sfits = omega arith })) (or_lt i (length xs)) }

pub wide_x : (xs ys : List ℤ) → Fitting xs ys (prompt xs) → Wide xs
wide_x xs ys f = wide xs (λ i h. fits_near _ (f.near_x i h))

pub wide_y : (xs ys : List ℤ) → Fitting xs ys (prompt xs) → Wide ys
wide_y xs ys f = wide ys (λ i h. fits_near _ (f.near_y i (rw f.alike h)))

pub fair-version : Fair 1 version
fair-version = record { long = refl; small = omega arith; version = λ rest. refl }

pub fair-sinks : (xs ys : List ℤ) → length xs ≤ 1023 → Fair 2 (places xs ys)
fair-sinks xs ys h =
    let l = length_places xs ys in
    record { long = simp (eq-eqb (length (places xs ys) % 8) 0 (omega arith)); small = omega arith; version = λ rest. refl }

-- ---- sink files
pub record SinksBack (xs ys : List ℤ) : Type 0 where
  pub formed : form 2 (sink_file xs ys) ≡ Ok tt
  pub same_x : xs_in (sink_file xs ys) ≡ xs
  pub same_y : ys_in (sink_file xs ys) ≡ ys

pub sinks_back : (xs ys : List ℤ) → check_sinks 512 xs ys (prompt xs) ≡ Ok tt → SinksBack xs ys
unfolding sink_file past
sinks_back xs ys q =
    let m = accepted 512 xs ys (prompt xs) q in
    let vs = version ∷ places xs ys ∷ [] in
    let (a, b) = written_form (fields 1 vs) [] 0 1 vs refl refl (also fair-version (also (fair-sinks xs ys (omega (arith, m.few))) none)) in
    let e : value_of (sink_file xs ys) 2 ≡ places xs ys = cc in
    record {
      formed = a;
      same_x = ap firsts e ∙ firsts_back xs ys (wide_x xs ys (fitting m.ranged));
      same_y = ap seconds e ∙ seconds_back xs ys (wide_y xs ys (fitting m.ranged)) m.ranged.alike;
    }

-- ---- accepted values are written back
module _ (f : List ℕ) (b : Bytes f) (at : ℕ) where
  pub version_back : Stands f at 1 → value_at f at ≡ version
  version_back s =
      let n = one_byte 1 (length_at f at) refl s.long in
      let h = s.within in
      let v : get_or f (at + 3) 0 ≡ 1 = eqb-true (get_or f (at + 3) 0) 1 (not-false (eqb (get_or f (at + 3) 0) 1) s.version) in
      rw (n, drop-cons f (at + 3) 0 (omega arith), v)

  pub sinks_value : Stands f at 2 → places (firsts (value_at f at)) (seconds (value_at f at)) ≡ value_at f at
  sinks_value s =
      let l : length_at f at % 8 ≡ 0 = eqb-true (length_at f at % 8) 0 (not-false (eqb (length_at f at % 8) 0) s.long) in
      places_back (value_at f at) (part_bytes f (length_at f at) (at + 3) b) (rw (value_long f b at 2 s) l)

pub sinks_kept : (f : List ℕ) → Bytes f → form 2 f ≡ Ok tt → sink_file (xs_in f) (ys_in f) ≡ f
unfolding sink_file past
sinks_kept f b q = go (whole f 2 1 0 q)
  where
    go : Whole f 2 1 0 → sink_file (xs_in f) (ys_in f) ≡ f
    go (more s (more t w)) = rw (sinks_value f b (next_at f 0) t, sym (version_back f b 0 s)) (sym (made f b 2 1 0 (more s (more t w))))
