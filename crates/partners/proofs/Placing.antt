-- Where the first entry of a list stands that passes a test, and so where a node stands among the live ones.
use mathlib.Core.Path.{◌≡◌, refl}
use mathlib.Core.Bool.{Bool, true, false, cond}
use mathlib.Core.List.{List}
use Prim.Native.Nat.{ℕ, ◌<◌}
use native.Mathlib.Omega.{arith}
use borrow.Author.Tests.{eqb-true, eqb-false, lt-ltb, le-ltb, ltb-false}
use lib.Dec.{eqb, ltb}
use lib.ListN.{length, get_or}
use Rattle.std.specs.Prelude.{None, Some, position}
use Rattle.std.specs.List.{position_or_len}
use Rattle.std.proofs.lemmas.List.Sums.{position_or_len_is, fails_before_first}
use Rattle.std.proofs.lemmas.List.Quantifiers.{position-Some}
use Rattle.partners.specs.Rows.{place_of}

-- ---- the first entry that passes a test, and none
module _ (p : ℕ → Bool) (xs : List ℕ) where
  pub position_some : (i : ℕ) → i < length xs → ((k : ℕ) → k < i → p (get_or xs k 0) ≡ false) → p (get_or xs i 0) ≡ true → Some i ≡ position p xs
  position_some i h f e = (let q = position_or_len_is p xs i 0 (omega arith) f (λ l. e) in rw (q, lt-ltb i (length xs) h))

  pub position_none : ((k : ℕ) → k < length xs → p (get_or xs k 0) ≡ false) → None ≡ position p xs
  position_none f = (let q = position_or_len_is p xs (length xs) 0 (omega arith) f (λ l. absurd (omega arith)) in rw (q, le-ltb (length xs) (length xs) (omega arith)))

-- a node that is found stands there; one that is not found stands nowhere
pub hit_at : (ls : List ℕ) (x : ℕ) {t : ℕ} → place_of ls x ≡ Some t → (t < length ls) × (get_or ls t 0 ≡ x)
hit_at ls x {t} e = (let s = position-Some (λ a. eqb a x) ls t 0 e in (s.0, eqb-true (get_or ls t 0) x s.1))

pub missing : (ls : List ℕ) (x : ℕ) → place_of ls x ≡ None → (i : ℕ) → i < length ls → get_or ls i 0 ≡ x → ⊥
missing ls x e i h q = go (ltb (position_or_len (λ a. eqb a x) ls) (length ls)) refl e
  where
    go : (b : Bool) → ltb (position_or_len (λ a. eqb a x) ls) (length ls) ≡ b → cond b (Some (position_or_len (λ a. eqb a x) ls)) None ≡ None → ⊥
    go true p n = cc
    go false p n =
        let l = ltb-false _ _ p in
        eqb-false (get_or ls i 0) x (fails_before_first (λ a. eqb a x) ls i 0 (omega arith)) q
