-- The outcomes of a writer and of a reader, one law for each.
use mathlib.Core.Path.{◌≡◌, refl, sym, ap, ◌∙◌}
use mathlib.Core.List.{List}
use Prim.Native.Nat.{ℕ, ◌≤◌, ◌<◌}
use native.Mathlib.Nat.{zero-add}
use native.Mathlib.Omega.{arith}
use borrow.Author.Tests.{lt-ltb, ltb-false, eq-eqb, ne_eqb}
use Rattle.std.specs.Prelude.{Ok, Err}
use lib.Dec.{ltb}
use lib.IntN.{ℤ}
use lib.ListN.{length}
use lib.Seq.{sets, sets-eq}
use Rattle.lists.specs.Grow.{front}
use Rattle.plane.specs.Refusals.{Checked}
use Rattle.plane.specs.Said.{refused_by}
use Rattle.plane.specs.Said.Said.{answered}
use Rattle.plane.specs.declared.refusal.Refusal.{Refusal}
use Rattle.plane.specs.declared.refusal.Refusal.TheVariants.{TooMany, Room}
use Rattle.plane.specs.Sinks.{prompt, check_places, check_sinks}
use Rattle.plane.proofs.Checks.{passed, check_prompt}
use Rattle.house.specs.Writing.{room_for, Writes}
use Rattle.text.specs.Written.{Room as PageRoom, Writes as Puts}
use Rattle.text.specs.declared.page.Page.{Page}

pub roomy : (needed room : ℕ) → room_for needed room ≡ Ok tt → needed ≤ room
roomy needed room q = ltb-false room needed (passed (ltb room needed) Room (Ok tt) q).0

-- what is stored from the front
sets_front : (new old : List ℕ) → length new ≤ length old → sets old 0 new ≡ front new old
sets_front new old h = sets-eq new old 0 (omega arith) ∙ rw zero-add

module _ {checked : Checked} {file out : List ℕ} (fine : checked ≡ Ok tt) where
  pub no_room : {r : Refusal} → room_for (length file) (length out) ≡ Err r → Writes checked file out (refused_by r) out
  no_room {r} e = record { answers = rw (fine, e); writes = refl }

  module _ {page : Page} (empty : page.at ≡ 0) (holds : page.out.now ≡ out) (room : room_for (length file) (length out) ≡ Ok tt) where
    pub has_room : PageRoom page file
    has_room = record { fits = omega (arith, empty, roomy _ _ room, ap length holds) }

    pub did_write : {end : Page} {r : ℕ} {out' : List ℕ} → Puts file page end → r ≡ end.at → out' ≡ end.out.now → Writes checked file out (answered r) out'
    did_write {end} {r} w e l =
        let n : r ≡ length file = omega (arith, e, w.ends, empty) in
        record { answers = rw (fine, room, n); writes = l ∙ w.holds ∙ rw (holds, empty) (sets_front file out (roomy _ _ room)) }

-- over the limit, where the lists are alike
pub too_many : (limit : ℕ) (xs ys : List ℤ) (n : ℕ) → length xs ≡ n → length ys ≡ n → limit < n → Err TooMany ≡ check_sinks limit xs ys (prompt xs)
unfolding check_places
too_many limit xs ys n p q h =
    let a : length xs ≡ length ys = p ∙ sym q in
    let z : length xs ≡ 0 → ⊥ = λ e. omega arith in
    rw (check_prompt limit xs ys)
    (simp (eq-eqb (length xs) (length ys) a, ne_eqb (length xs) 0 z, lt-ltb limit (length xs) (omega arith)))
