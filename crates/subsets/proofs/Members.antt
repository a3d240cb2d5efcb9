-- What stands in the list of a subset's sinks.
use mathlib.Core.Path.{◌≡◌, refl, sym, ap, ◌∙◌}
use mathlib.Core.Logic.{⊎_elim}
use mathlib.Core.Bool.{Bool, true, false}
use mathlib.Core.List.{List, [], ◌∷◌, Memᴰ}
use Prim.Native.Nat.{ℕ, zero, suc, ◌+◌, ◌≤◌, ◌<◌}
use native.Mathlib.Omega.{arith}
use Rattle.lists.proofs.Tests.{or_lt}
use Rattle.subsets.specs.Subsets.{holds, keep, keep_if, rising, sinks_in_subset}

keep_in : (p : ℕ → Bool) (l : List ℕ) (x : ℕ) → Memᴰ x (keep p l) → Memᴰ x l × (p x ≡ true)
unfolding keep
keep_in p [] x m = elim m [ ]
keep_in p (y ∷ l) x m = go (p y) refl (keep_in p l x) m
  where
    go : (b : Bool) → p y ≡ b → (Memᴰ x (keep p l) → Memᴰ x l × (p x ≡ true)) → Memᴰ x (keep_if b y (keep p l)) → Memᴰ x (y ∷ l) × (p x ≡ true)
    go true e ih (Memᴰ.head q) = (Memᴰ.head q, ap p q ∙ e)
    go true e ih (Memᴰ.tail h) = (Memᴰ.tail (ih h).0, (ih h).1)
    go false e ih h = (Memᴰ.tail (ih h).0, (ih h).1)

pub in_keep : (p : ℕ → Bool) (l : List ℕ) (x : ℕ) → Memᴰ x l → p x ≡ true → Memᴰ x (keep p l)
unfolding keep
in_keep p [] x x4 e = elim x4 [ ]
in_keep p (y ∷ l) x (Memᴰ.head q) e = go (p y) refl
  where
    go : (b : Bool) → p y ≡ b → Memᴰ x (keep_if b y (keep p l))
    go true f = Memᴰ.head q
    go false f = let z : ◌≡◌ {A = Bool} true false = sym e ∙ ap p q ∙ f in let w : ◌≡◌ {A = ℕ} 0 1 = cc in absurd (omega arith)
in_keep p (y ∷ l) x (Memᴰ.tail m) e = go (p y) (in_keep p l x m e)
  where
    go : (b : Bool) → Memᴰ x (keep p l) → Memᴰ x (keep_if b y (keep p l))
    go true h = Memᴰ.tail h
    go false h = h

rising_in : (k i x : ℕ) → Memᴰ x (rising k i) → (i ≤ x) × (x < i + k)
unfolding rising
rising_in zero i x m = elim m [ ]
rising_in (suc k) i x (Memᴰ.head q) = (omega arith, omega arith)
rising_in (suc k) i x (Memᴰ.tail m) = let h = rising_in k (suc i) x m in (omega arith, omega arith)

pub in_rising : (k i x : ℕ) → i ≤ x → x < i + k → Memᴰ x (rising k i)
unfolding rising
in_rising zero i x h l = absurd (omega arith)
in_rising (suc k) i x h l = ⊎_elim (λ p. Memᴰ.tail (in_rising k (suc i) x p (omega arith))) (λ p. Memᴰ.head (omega arith)) (or_lt i x)

pub sinks_in : (n m i : ℕ) → Memᴰ i (sinks_in_subset n m) → (i < n) × (holds m i ≡ true)
unfolding sinks_in_subset
sinks_in n m i h = let k = keep_in (holds m) (rising n 0) i h in let l = rising_in n 0 i k.0 in (omega (arith, l.1), k.1)

pub in_sinks : (n m i : ℕ) → i < n → holds m i ≡ true → Memᴰ i (sinks_in_subset n m)
unfolding sinks_in_subset
in_sinks n m i h e = in_keep (holds m) (rising n 0) i (in_rising n 0 i (omega arith) (omega arith)) e
