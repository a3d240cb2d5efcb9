-- From a text in a buffer to what a call that prints promises.
use mathlib.Core.Path.{◌≡◌, refl, ◌∙◌}
use mathlib.Core.List.{List, ◌++◌}
use Prim.Native.Nat.{ℕ, ◌≤◌}
use native.Mathlib.Nat.{zero-add}
use native.Mathlib.Omega.{arith}
use lib.ListN.{length, drop, length-append}
use lib.Seq.{sets, sets-eq}
use Rattle.lines.specs.Printed.{Printed}
use Rattle.text.specs.Written.{Writes}
use Rattle.text.specs.declared.page.Page.{Page}

-- a text that is written from the front of a page
pub printed : {text : List ℕ} {old new : Page} → Writes text old new → old.at ≡ 0 → new.at ≤ length old.out.now → Printed text old.out.now new.at new.out.now
printed {text} {old} {new} w z h =
    let e : new.at ≡ length text = omega (arith, w.ends) in
    let f : sets old.out.now old.at text ≡ text ++ drop (length text) old.out.now = rw z (sets-eq text old.out.now 0 (omega (arith, e)) ∙ rw zero-add refl) in
    record { answers = e; writes = w.holds ∙ f }

-- what is printed lies in the buffer
pub printed_fits : {end : ℕ} {text old new : List ℕ} → Printed text old end new → end ≤ length new
printed_fits {end} {text} {old} p =
    rw p.writes (omega (arith, p.answers, length-append text (drop (length text) old)))
