-- What a file of the form holds: fields, one after another, up to its end.
use mathlib.Core.Path.{◌≡◌, refl}
use mathlib.Core.Bool.{Bool, true, false, not}
use mathlib.Core.List.{List}
use mathlib.Core.Logic.{⊎_elim}
use Prim.Native.Nat.{ℕ, zero, suc, ◌+◌, ◌≤◌, ◌<◌}
use native.Mathlib.Omega.{arith}
use borrow.Author.Tests.{ltb-false, eqb-true, not-false}
use Rattle.std.specs.Prelude.{Result, Ok, Err}
use lib.Dec.{eqb, ltb, leb}
use lib.ListN.{length, get_or}
use Rattle.lists.proofs.Tests.{or_lt}
use Rattle.plane.specs.declared.refusal.Refusal.{Refusal}
use Rattle.plane.specs.declared.refusal.Refusal.TheVariants.{Form}
use Rattle.plane.proofs.Checks.{passed}
use Rattle.fields.specs.Form.{wrong_length, wrong_version, length_at, next_at, bad_if, body_at, field_at, after_field, form_from, form, past, Formed}

-- the field of a tag stands at byte `at`
pub record Stands (f : List ℕ) (at tag : ℕ) : Type 0 where
  pub tagged : get_or f at 0 ≡ tag
  pub header : at + 3 ≤ length f
  pub long : wrong_length tag (length_at f at) ≡ false
  pub within : next_at f at ≤ length f
  pub version : wrong_version tag (get_or f (at + 3) 0) ≡ false

-- so many fields stand from byte `at` on, and nothing after them
pub data Whole (f : List ℕ) : ℕ → ℕ → ℕ → Type 0 where
  done : {tag at : ℕ} → length f ≤ at → Whole f zero tag at
  more : {k tag at : ℕ} → Stands f at tag → Whole f k (suc tag) (next_at f at) → Whole f (suc k) tag at

good : (t : Bool) (o n : ℕ) (e : Result ℕ Refusal) → bad_if t o e ≡ Ok n → (t ≡ false) × (e ≡ Ok n)
good true o n e q = let z : ◌≡◌ {A = ℕ} 0 1 = cc in let b : ⊥ = omega arith in absurd b
good false o n e q = (refl, q)

stands : (f : List ℕ) (at tag next : ℕ) → field_at f at tag ≡ Ok next → Stands f at tag × (next_at f at ≡ next)
unfolding field_at body_at
stands f at tag next q =
    let a = good (leb (length f) at) (length f) next _ q in
    let b = good (not (eqb (get_or f at 0) tag)) at next _ a.1 in
    let c = good (ltb (length f) (at + 3)) (length f) next _ b.1 in
    let d = good (wrong_length tag (length_at f at)) at next _ c.1 in
    let e = good (ltb (length f) (next_at f at)) at next _ d.1 in
    let g = good (wrong_version tag (get_or f (at + 3) 0)) at next _ e.1 in
    let h = g.1 in (
      record {
        tagged = eqb-true (get_or f at 0) tag (not-false (eqb (get_or f at 0) tag) b.0);
        header = ltb-false (length f) (at + 3) c.0;
        long = d.0;
        within = ltb-false (length f) (next_at f at) e.0;
        version = g.0;
      },
      cc,
    )

-- a file of the form is whole
pub whole : (f : List ℕ) (k tag at : ℕ) → form_from f k tag at ≡ Ok tt → Whole f k tag at
unfolding form_from
whole f zero tag at q = done (ltb-false at (length f) (passed (ltb at (length f)) (Form at) (Ok tt) q).0)
whole f (suc k) tag at q = go (field_at f at tag) refl q (whole f k (suc tag))
  where
    go : (r : Result ℕ Refusal) → field_at f at tag ≡ r → after_field r (form_from f k (suc tag)) ≡ Ok tt → ((next : ℕ) → form_from f k (suc tag) next ≡ Ok tt → Whole f k (suc tag) next) → Whole f (suc k) tag at
    go (Ok next) e p rest = let (s, n) = stands f at tag next e in more s (rest (next_at f at) (rw n p))
    go (Err o) e p rest = let z : ◌≡◌ {A = ℕ} 0 1 = cc in let b : ⊥ = omega arith in absurd b

-- its fields lie in it
lies : (f : List ℕ) (k j t : ℕ) → Whole f k (suc j) (past f j) → j ≤ t → t < j + k → (past f t + 3 ≤ length f) × (past f (suc t) ≤ length f)
unfolding past
lies f zero j t w l h = let b : ⊥ = omega arith in absurd b
lies f (suc k) j t (more s w) l h =
    ⊎_elim
    (λ g. lies f k (suc j) t w g (omega arith))
    (λ g. let e : t ≡ j = omega arith in rw e (s.header, s.within))
    (or_lt j t)

pub formed : (last : ℕ) (f : List ℕ) → form last f ≡ Ok tt → Formed last f
unfolding past
formed last f q =
    let w = whole f last 1 0 q in
    record { header = λ t h. (lies f last 0 t w (omega arith) (omega arith)).0; within = λ t h. (lies f last 0 t w (omega arith) (omega arith)).1 }
