-- Orders that join the same sets have the same sinks, diameters and sum of diameters.
use mathlib.Core.Path.{◌≡◌, refl, sym}
use mathlib.Core.Logic.{inl, inr, ⊎_elim}
use mathlib.Core.List.Memᴰ
use mathlib.Core.List.{◌++◌, Memᴰ}
use Prim.Native.Nat.{ℕ}
use native.Mathlib.Omega.{arith}
use Rattle.zero_skew.specs.Plane.{Sinks}
use Rattle.zero_skew.specs.Box.{diameter}
use Rattle.zero_skew.specs.Order.{Order, one, both, sinks_of, sums, Alike}
use Rattle.zero_skew.proofs.Lemma1.{diam_within}

alike_sym : (o w : Order) → Alike o w → Alike w o
alike_sym (one i) (one j) a = sym a
alike_sym (one i) (both l r) a = absurd a
alike_sym (both l r) (one j) a = absurd a
alike_sym (both l r) (both l' r') (inl a) = inl (alike_sym l l' a.0, alike_sym r r' a.1)
alike_sym (both l r) (both l' r') (inr a) = inr (alike_sym r l' a.1, alike_sym l r' a.0)

alike_in : (o w : Order) → Alike o w → (i : ℕ) → Memᴰ i (sinks_of o) → Memᴰ i (sinks_of w)
unfolding sinks_of
alike_in (one j) (one k) a i m = rw (← a) m
alike_in (one j) (both l r) a i m = absurd a
alike_in (both l r) (one k) a i m = absurd a
alike_in (both l r) (both l' r') (inl a) i m =
    ⊎_elim
    (λ x. Memᴰ.append_left (sinks_of r') (alike_in l l' a.0 i x))
    (λ x. Memᴰ.append_right (sinks_of l') (alike_in r r' a.1 i x))
    (Memᴰ.append_cases (sinks_of l) m)
alike_in (both l r) (both l' r') (inr a) i m =
    ⊎_elim
    (λ x. Memᴰ.append_right (sinks_of l') (alike_in l r' a.0 i x))
    (λ x. Memᴰ.append_left (sinks_of r') (alike_in r l' a.1 i x))
    (Memᴰ.append_cases (sinks_of l) m)

module _ (s : Sinks) where
  pub alike-diam : (o w : Order) → Alike o w → diameter s (sinks_of o) ≡ diameter s (sinks_of w)
  alike-diam o w a =
      omega (
        arith,
        diam_within s (sinks_of o) (sinks_of w) (alike_in o w a),
        diam_within s (sinks_of w) (sinks_of o) (alike_in w o (alike_sym o w a)),
      )

  whole : (l r l' r' : Order) → Alike (both l r) (both l' r') → diameter s (sinks_of l ++ sinks_of r) ≡ diameter s (sinks_of l' ++ sinks_of r')
  unfolding sinks_of
  whole l r l' r' a = alike-diam (both l r) (both l' r') a

  pub alike-sums : (o w : Order) → Alike o w → sums s o ≡ sums s w
  unfolding sums
  alike-sums (one i) (one j) a = refl
  alike-sums (one i) (both l r) a = absurd a
  alike-sums (both l r) (one j) a = absurd a
  alike-sums (both l r) (both l' r') (inl a) = omega (arith, whole l r l' r' (inl a), alike-sums l l' a.0, alike-sums r r' a.1)
  alike-sums (both l r) (both l' r') (inr a) = omega (arith, whole l r l' r' (inr a), alike-sums l r' a.0, alike-sums r l' a.1)
