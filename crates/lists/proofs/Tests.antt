-- What the two sides of a test tell.
use mathlib.Core.Path.{◌≡◌, sym, ◌∙◌}
use mathlib.Core.Logic.{◌⊎◌, inl, inr, ⊎_elim}
use mathlib.Core.Bool.{Bool, true, false, not, cond, ◌&&◌}
use Prim.Native.Nat.{ℕ, zero, suc, ◌≤◌, ◌<◌, zero-le, suc-le-suc}
use native.Mathlib.Omega.{arith}
use lib.Dec.{T}

pub or_le : (a b : ℕ) → (a ≤ b) ⊎ (b ≤ a)
or_le zero b = inl zero-le
or_le (suc a) zero = inr zero-le
or_le (suc a) (suc b) = ⊎_elim (λ p. inl (suc-le-suc p)) (λ q. inr (suc-le-suc q)) (or_le a b)

pub or_lt : (a b : ℕ) → (a < b) ⊎ (b ≤ a)
or_lt a zero = inr zero-le
or_lt zero (suc b) = inl (omega arith)
or_lt (suc a) (suc b) = ⊎_elim (λ p. inl (omega arith)) (λ q. inr (omega arith)) (or_lt a b)

-- what holds on both sides of a test holds of its choice
pub choice {ℓ} : {A : Type ℓ} (P : A → Type 0) (c : Bool) (x y : A) → (T c → P x) → (T (not c) → P y) → P (cond c x y)
choice P true x y f g = f tt
choice P false x y f g = g tt

-- the result of a test that goes on only where its first part holds
pub and_yes : {a b r s : Bool} → r ≡ a → r ≡ true → s ≡ b → s ≡ (a && b)
and_yes {a} {b} {r} {s} p q e = rw (sym p ∙ q) e

pub and_no : {a r : Bool} (b : Bool) → r ≡ a → r ≡ false → r ≡ (a && b)
and_no {a} {r} b p q = rw (sym p ∙ q) q

pub and_both : (a b : Bool) → (a && b) ≡ true → T a × T b
and_both true true e = (tt, tt)
and_both true false e = let z : ◌≡◌ {A = ℕ} 0 1 = cc in let b : ⊥ = omega arith in absurd b
and_both false b e = let z : ◌≡◌ {A = ℕ} 0 1 = cc in let b : ⊥ = omega arith in absurd b
