-- The box of two sets together is the hull of their boxes, and its diameter is no smaller than either's.
use mathlib.Core.Path.{◌≡◌, refl, sym}
use mathlib.Core.Logic.{inl, inr, ⊎_elim}
use mathlib.Core.List.Memᴰ
use mathlib.Core.List.{List, [], ◌∷◌, ◌++◌}
use Prim.Native.Nat.{ℕ, ◌≤◌, ◌<◌}
use native.Mathlib.Omega.{arith}
use lib.IntN.{ℤ, pos, ◌+ℤ◌, ◌-ℤ◌}
use lib.ListN.{length}
use Rattle.zero_skew.specs.Plane.{Sinks, u, v}
use Rattle.zero_skew.specs.Box.{larger, smaller, greatest, least, high, low, box_of, diameter, hull}
use Rattle.zero_skew.proofs.Whole.{◌⊑◌, add_is, minus_is, larger_is, smaller_is}
use Rattle.zero_skew.proofs.Lemma1.{greatest_over, least_under, greatest_met, least_met, greatest_within, least_within, diam_within}

-- ---- the ends of a union
module _ (f : ℕ → ℤ) where
  pub greatest-append : (i : ℕ) (l : List ℕ) (j : ℕ) (m : List ℕ) → larger (greatest f (i ∷ l)) (greatest f (j ∷ m)) ≡ greatest f ((i ∷ l) ++ (j ∷ m))
  greatest-append i l j m =
      let (k, mk, e) = greatest_met f i (l ++ (j ∷ m)) in
      larger_is (greatest f (i ∷ l)) (greatest f (j ∷ m)) (greatest f ((i ∷ l) ++ (j ∷ m))) (greatest_within f i l _ (λ h n. Memᴰ.append_left (j ∷ m) n)) (greatest_within f j m _ (λ h n. Memᴰ.append_right (i ∷ l) n))
      (⊎_elim (λ n. inl (rw e (greatest_over f (i ∷ l) k n))) (λ n. inr (rw e (greatest_over f (j ∷ m) k n))) (Memᴰ.append_cases (i ∷ l) mk))

  pub least_append : (i : ℕ) (l : List ℕ) (j : ℕ) (m : List ℕ) → smaller (least f (i ∷ l)) (least f (j ∷ m)) ≡ least f ((i ∷ l) ++ (j ∷ m))
  least_append i l j m =
      let (k, mk, e) = least_met f i (l ++ (j ∷ m)) in
      smaller_is (least f (i ∷ l)) (least f (j ∷ m)) (least f ((i ∷ l) ++ (j ∷ m))) (least_within f i l _ (λ h n. Memᴰ.append_left (j ∷ m) n)) (least_within f j m _ (λ h n. Memᴰ.append_right (i ∷ l) n))
      (⊎_elim (λ n. inl (rw e (least_under f (i ∷ l) k n))) (λ n. inr (rw e (least_under f (j ∷ m) k n))) (Memᴰ.append_cases (i ∷ l) mk))

module _ (s : Sinks) where
  -- a box is not empty
  pub low_high : (c : ℕ → ℤ) (i : ℕ) (l : List ℕ) → low s c (i ∷ l) ⊑ high s c (i ∷ l)
  low_high c i l =
      omega (
        arith,
        least_under (λ j. c j -ℤ pos (s.wait j)) (i ∷ l) i (Memᴰ.head refl),
        greatest_over (λ j. c j +ℤ pos (s.wait j)) (i ∷ l) i (Memᴰ.head refl),
        add_is (c i) (pos (s.wait i)),
        minus_is (c i) (pos (s.wait i)),
      )

  module _ (i : ℕ) (l : List ℕ) (j : ℕ) (m : List ℕ) where
    pub high_is : (c : ℕ → ℤ) → larger (high s c (i ∷ l)) (high s c (j ∷ m)) ≡ high s c ((i ∷ l) ++ (j ∷ m))
    high_is c = greatest-append (λ k. c k +ℤ pos (s.wait k)) i l j m

    pub low_is : (c : ℕ → ℤ) → smaller (low s c (i ∷ l)) (low s c (j ∷ m)) ≡ low s c ((i ∷ l) ++ (j ∷ m))
    low_is c = least_append (λ k. c k -ℤ pos (s.wait k)) i l j m

    -- THE BOX of a joined set is the hull of the boxes
    box-append : box_of s ((i ∷ l) ++ (j ∷ m)) ≡ hull (box_of s (i ∷ l)) (box_of s (j ∷ m))
    box-append = λ k. record {
      least_u = sym (low_is (u s)) k;
      greatest_u = sym (high_is (u s)) k;
      least_v = sym (low_is (v s)) k;
      greatest_v = sym (high_is (v s)) k;
    }

  pub box-join : (l m : List ℕ) → 0 < length l → 0 < length m → box_of s (l ++ m) ≡ hull (box_of s l) (box_of s m)
  box-join [] m h g = absurd (omega arith)
  box-join (i ∷ l) [] h g = absurd (omega arith)
  box-join (i ∷ l) (j ∷ m) h g = box-append i l j m

  -- a part's diameter is no larger
  pub under_l : (l m : List ℕ) → diameter s l ≤ diameter s (l ++ m)
  under_l l m = diam_within s l (l ++ m) (λ k n. Memᴰ.append_left m n)

  pub under_r : (l m : List ℕ) → diameter s m ≤ diameter s (l ++ m)
  under_r l m = diam_within s m (l ++ m) (λ k n. Memᴰ.append_right l n)
