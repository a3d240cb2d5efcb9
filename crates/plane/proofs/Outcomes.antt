-- Two permitted outcomes of a public call coincide.
use mathlib.Core.Path.{◌≡◌, sym, ap, ◌∙◌}
use mathlib.Core.List.{List}
use Prim.Native.Nat.{ℕ}
use lib.IntN.{ℤ}
use Rattle.std.specs.Prelude.{Result, Ok, Err}
use Rattle.measures.specs.declared.boxes.Box.{Box}
use Rattle.plane.specs.declared.bounds.Widening.{Widening}
use Rattle.plane.specs.declared.bounds.Extent.{Extent}
use Rattle.plane.specs.declared.refusal.Refusal.{Refusal}
use Rattle.plane.specs.Said.{told}
use Rattle.plane.specs.Bounds.{seen, bounds, bounds_in, box_answer, Widens}
use Rattle.plane.proofs.Answered.{same_values, same_refusal, not_refused, told_once}
use Rattle.plane.proofs.Unlifted.{bounds_once}

pub seen_once : (a b : Result Box Refusal) → seen a ≡ seen b → a ≡ b
seen_once (Ok a) (Ok b) e = ap Ok (bounds_once a b (same_values (bounds a) (bounds b) e))
seen_once (Ok a) (Err r) e = absurd (not_refused (bounds a) r e)
seen_once (Err r) (Ok b) e = absurd (not_refused (bounds b) r (sym e))
seen_once (Err r) (Err q) e = ap Err (same_refusal r q e)

pub only_box_of : (xs ys : List ℤ) (delays : List ℕ) {r r' : Result Box Refusal} → seen r ≡ box_answer xs ys delays → seen r' ≡ box_answer xs ys delays → r ≡ r'
only_box_of xs ys delays {r} {r'} p q = seen_once r r' (p ∙ sym q)

pub only_widened : (b : Box) (x y : ℤ) (w : ℕ) {r r' : Widening} → Widens (bounds b) x y w (bounds r.held) (told r.said) → Widens (bounds b) x y w (bounds r'.held) (told r'.said) → r ≡ r'
only_widened b x y w {r} {r'} p q =
    let e = bounds_once r.held r'.held (p.holds ∙ sym q.holds) in
    let f = told_once r.said r'.said (p.says ∙ sym q.says) in
    λ k. record { held = e k; said = f k }

pub only_ends : (b : Box) {r r' : Extent} → bounds_in r ≡ bounds b → bounds_in r' ≡ bounds b → r ≡ r'
only_ends b {r} {r'} p q =
    let e = p ∙ sym q in
    λ k. record { least_u = (e k).least_u; greatest_u = (e k).greatest_u; least_v = (e k).least_v; greatest_v = (e k).greatest_v }
