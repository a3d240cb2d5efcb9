-- What an answer shows: values are only said after a check that is passed, and a refusal is told by its number and place.
use mathlib.Core.Path.{◌≡◌, refl, sym, ap}
use Prim.Native.Nat.{ℕ}
use native.Mathlib.Omega.{arith}
use Rattle.plane.specs.declared.refusal.Refusal.{Refusal}
use Rattle.std.specs.Prelude.{Result, Ok, Err}
use Rattle.plane.specs.Refusals.{Checked, number, place}
use Rattle.plane.specs.Said.{Said, refused_by, after, told}
use Rattle.plane.specs.Said.Said.{answered}
use Rattle.plane.proofs.Numbered.{told_apart}

module _ {A : Type 0} where
  pub after_answered : (c : Checked) (a b : A) → answered b ≡ after c a → (c ≡ Ok tt) × (b ≡ a)
  after_answered (Ok tt) a b e = (refl, cc)
  after_answered (Err r) a b e = let z : ◌≡◌ {A = ℕ} 0 1 = cc in let n : ⊥ = omega arith in absurd n

  pub same_values : (a b : A) → ◌≡◌ {A = Said A} (answered a) (answered b) → a ≡ b
  same_values a b e = cc

  pub same_refusal : (r q : Refusal) → ◌≡◌ {A = Said A} (refused_by r) (refused_by q) → r ≡ q
  same_refusal r q e = let n : number r ≡ number q = cc in let p : place r ≡ place q = cc in told_apart r q n p

  pub not_refused : (a : A) (r : Refusal) → ◌≡◌ {A = Said A} (answered a) (refused_by r) → ⊥
  not_refused a r e = let z : ◌≡◌ {A = ℕ} 0 1 = cc in omega arith

  -- two answers of which the same is told
  pub told_once : (a b : Result A Refusal) → told a ≡ told b → a ≡ b
  told_once (Ok a) (Ok b) e = ap Ok (same_values a b e)
  told_once (Ok a) (Err r) e = absurd (not_refused a r e)
  told_once (Err r) (Ok b) e = absurd (not_refused b r (sym e))
  told_once (Err r) (Err q) e = ap Err (same_refusal r q e)
