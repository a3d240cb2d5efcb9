-- Whether a test holds at an index: from the answers at each.
use mathlib.Core.Path.{◌≡◌, refl, ◌∙◌}
use mathlib.Core.Bool.{Bool, true, false, ◌||◌}
use Prim.Native.Nat.{ℕ, suc, ◌<◌}
use native.Mathlib.Omega.{arith}
use borrow.Author.Tests.{ltb-true, ltb-false}
use lib.Dec.{ltb}
use Rattle.lists.specs.First.{first, any}
use Rattle.lists.proofs.First.{first_hit, any_no}

pub no_both : (b : Bool) → b ≡ true → b ≡ false → ⊥
no_both b p q = let z : ◌≡◌ {A = ℕ} 0 1 = cc in omega arith

pub any_yes : (p : ℕ → Bool) (n j : ℕ) → j < n → p j ≡ true → any p n ≡ true
any_yes p n j h e = go (any p n) refl
  where
    go : (t : Bool) → any p n ≡ t → any p n ≡ true
    go true q = q
    go false q = absurd (no_both _ e (any_no p n q j h))

pub any_none : (p : ℕ → Bool) (n : ℕ) → ((j : ℕ) → j < n → p j ≡ false) → any p n ≡ false
any_none p n h = go (any p n) refl
  where
    go : (t : Bool) → any p n ≡ t → any p n ≡ false
    go false q = q
    go true q =
        let l = ltb-true (first p 0 n) n q in
        absurd (no_both _ (first_hit p 0 n (omega arith)) (h (first p 0 n) l))

-- one index more
pub any_more : (p : ℕ → Bool) (n : ℕ) → any p (suc n) ≡ (p n || any p n)
any_more p n = go (p n) refl (any p n) refl
  where
    go : (s : Bool) → p n ≡ s → (t : Bool) → any p n ≡ t → any p (suc n) ≡ (p n || any p n)
    go true e t f = any_yes p (suc n) n (omega arith) e ∙ rw e
    go false e false f =
        any_none p (suc n) (λ j h. low j h (ltb j n) refl) ∙ rw (e, f)
      where
        low : (j : ℕ) → j < suc n → (b : Bool) → ltb j n ≡ b → p j ≡ false
        low j h true q = any_no p n f j (ltb-true j n q)
        low j h false q = let r : j ≡ n = omega (arith, ltb-false j n q) in rw r e
    go false e true f =
        let l = ltb-true (first p 0 n) n f in
        any_yes p (suc n) (first p 0 n) (omega arith) (first_hit p 0 n (omega arith)) ∙ rw (e, f)
