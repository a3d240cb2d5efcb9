-- Document 01's numbers and places, and the refusals: each pair of the table has one refusal, and each refusal its pair.
use mathlib.Core.Path.{◌≡◌, refl, sym, ap, ◌∙◌}
use mathlib.Core.Bool.{Bool, true, false, cond}
use Prim.Native.Nat.{ℕ}
use native.Mathlib.Omega.{arith}
use borrow.Author.Tests.{eqb-true}
use lib.Dec.{eqb}
use Rattle.std.specs.Prelude.{Option, Some, None}
use Rattle.plane.specs.Refusals.{number, place, refusal, Listed}
use Rattle.plane.specs.Refusals.Listed.{lists, no_sink, too_many, outside, joins, room, form, tags, unlike, late}
use Rattle.plane.specs.declared.refusal.Refusal.{Refusal}
use Rattle.plane.specs.declared.refusal.Refusal.TheVariants.{Lists, NoSink, TooMany, Outside, Joins, Room, Form, Tags, Unlike, Late}

pub number_back : {n : ℕ} {p : Option ℕ} → Listed n p → number (refusal n p) ≡ n
number_back lists = refl
number_back no_sink = refl
number_back too_many = refl
number_back (outside i) = refl
number_back (joins i) = refl
number_back room = refl
number_back (form i) = refl
number_back tags = refl
number_back (unlike i) = refl
number_back (late i) = refl

pub place_back : {n : ℕ} {p : Option ℕ} → Listed n p → place (refusal n p) ≡ p
place_back lists = refl
place_back no_sink = refl
place_back too_many = refl
place_back (outside i) = refl
place_back (joins i) = refl
place_back room = refl
place_back (form i) = refl
place_back tags = refl
place_back (unlike i) = refl
place_back (late i) = refl

-- no refusal is out of the table
pub listed : (r : Refusal) → Listed (number r) (place r)
listed Lists = lists
listed NoSink = no_sink
listed TooMany = too_many
listed (Outside i) = outside i
listed (Joins i) = joins i
listed Room = room
listed (Form i) = form i
listed Tags = tags
listed (Unlike i) = unlike i
listed (Late i) = late i

pub refusal_back : (r : Refusal) → refusal (number r) (place r) ≡ r
refusal_back Lists = refl
refusal_back NoSink = refl
refusal_back TooMany = refl
refusal_back (Outside i) = refl
refusal_back (Joins i) = refl
refusal_back Room = refl
refusal_back (Form i) = refl
refusal_back Tags = refl
refusal_back (Unlike i) = refl
refusal_back (Late i) = refl

-- number and place tell refusals apart
pub told_apart : (r q : Refusal) → number r ≡ number q → place r ≡ place q → r ≡ q
told_apart r q e f = sym (refusal_back r) ∙ ap (λ (n : ℕ). refusal n (place r)) e ∙ ap (refusal (number q)) f ∙ refusal_back q

-- ---- a number that is asked for is the number that is said: for no other does `refusal` have the place that was asked for
step : (n k : ℕ) (r q : Refusal) (p : Option ℕ) → number r ≡ k → (place q ≡ p → number q ≡ n) → place (cond (eqb n k) r q) ≡ p → number (cond (eqb n k) r q) ≡ n
step n k r q p e h = go (eqb n k) refl
  where
    go : (t : Bool) → eqb n k ≡ t → place (cond t r q) ≡ p → number (cond t r q) ≡ n
    go true s w = e ∙ sym (eqb-true n k s)
    go false s w = h w

pub asked : (n : ℕ) (p : Option ℕ) → place (refusal n p) ≡ p → number (refusal n p) ≡ n
asked n None =
    step n 1 Lists _ None refl
    (step n 2 NoSink _ None refl
    (step n 3 TooMany _ None refl
    (step n 7 Room _ None refl
    (step n 9 Tags _ None refl
    (λ w. let z : ◌≡◌ {A = ℕ} 0 1 = cc in let b : ⊥ = omega arith in absurd b)))))
asked n (Some i) =
    step n 4 (Outside i) _ (Some i) refl
    (step n 6 (Joins i) _ (Some i) refl
    (step n 8 (Form i) _ (Some i) refl
    (step n 9 (Unlike i) _ (Some i) refl
    (step n 15 (Late i) _ (Some i) refl
    (λ w. let z : ◌≡◌ {A = ℕ} 0 1 = cc in let b : ⊥ = omega arith in absurd b)))))
