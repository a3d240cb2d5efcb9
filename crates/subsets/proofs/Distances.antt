-- The square of distances gives each subset's diameter (000, Lemma 1).
use mathlib.Core.Path.{◌≡◌, refl, sym, ap, ◌∙◌}
use mathlib.Core.Logic.{◌⊎◌, inl, inr, ⊎_elim}
use mathlib.Core.List.{List, [], ◌∷◌, Memᴰ}
use Prim.Native.Nat.{ℕ, ◌≤◌, ◌<◌, max}
use native.Mathlib.Omega.{arith}
use lib.ListN.{get_or}
use Rattle.lists.proofs.Tests.{or_le, or_lt}
use Rattle.zero_skew.specs.Plane.{Sinks, dist}
use Rattle.zero_skew.specs.Box.{diameter}
use Rattle.zero_skew.proofs.Distance.{dist_self, dist_swap}
use Rattle.zero_skew.proofs.Lemma1.{diam_over, diam_met, diam_none}
use Rattle.subsets.specs.Square.{Square, entry, farthest_of, widest, widest_of}
use Rattle.subsets.specs.Subsets.{diam, sinks_in_subset}
use Rattle.subsets.proofs.Members.{in_sinks, sinks_in}

max_one : (a b : ℕ) → (max a b ≡ a) ⊎ (max a b ≡ b)
max_one a b = ⊎_elim (λ h. inr (omega arith)) (λ h. inl (omega arith)) (or_le a b)

-- ---- the greatest entry of a row, and of the square
module _ (row : List ℕ) where
  farthest_over : (l : List ℕ) (j : ℕ) → Memᴰ j l → get_or row j 0 ≤ farthest_of row l
  unfolding farthest_of
  farthest_over [] j x' = elim x' [ ]
  farthest_over (b ∷ l) j (Memᴰ.head e) = omega (arith, ap (λ (x : ℕ). get_or row x 0) e)
  farthest_over (b ∷ l) j (Memᴰ.tail m) = omega (arith, farthest_over l j m)

  farthest_met : (l : List ℕ) → (farthest_of row l ≡ 0) ⊎ ((j : ℕ) × Memᴰ j l × (farthest_of row l ≡ get_or row j 0))
  unfolding farthest_of
  farthest_met [] = inl refl
  farthest_met (b ∷ l) = go (max_one (get_or row b 0) (farthest_of row l)) (farthest_met l)
    where
      m : ℕ
      m = max (get_or row b 0) (farthest_of row l)

      go : (m ≡ get_or row b 0) ⊎ (m ≡ farthest_of row l) → (farthest_of row l ≡ 0) ⊎ ((j : ℕ) × Memᴰ j l × (farthest_of row l ≡ get_or row j 0)) → (m ≡ 0) ⊎ ((j : ℕ) × Memᴰ j (b ∷ l) × (m ≡ get_or row j 0))
      go (inl e) r = inr (b, Memᴰ.head refl, e)
      go (inr e) (inl z) = inl (e ∙ z)
      go (inr e) (inr (j, h, f)) = inr (j, Memᴰ.tail h, e ∙ f)

module _ (q : List (List ℕ)) where
  Met : List ℕ → Type 0
  Met l = (widest_of q l ≡ 0) ⊎ ((i : ℕ) × (j : ℕ) × Memᴰ i l × Memᴰ j l × (widest_of q l ≡ entry q i j))

  widest_met : (l : List ℕ) → Met l
  unfolding Met widest_of
  widest_met [] = inl refl
  widest_met (a ∷ l) = go (max_one (farthest_of (get_or q a []) (a ∷ l)) (widest_of q l)) (farthest_met (get_or q a []) (a ∷ l)) (widest_met l)
    where
      m : ℕ
      m = max (farthest_of (get_or q a []) (a ∷ l)) (widest_of q l)

      go : (m ≡ farthest_of (get_or q a []) (a ∷ l)) ⊎ (m ≡ widest_of q l) → (farthest_of (get_or q a []) (a ∷ l) ≡ 0) ⊎ ((j : ℕ) × Memᴰ j (a ∷ l) × (farthest_of (get_or q a []) (a ∷ l) ≡ entry q a j)) → Met l
          → (m ≡ 0) ⊎ ((i : ℕ) × (j : ℕ) × Memᴰ i (a ∷ l) × Memᴰ j (a ∷ l) × (m ≡ entry q i j))
      go (inl e) (inl z) r = inl (e ∙ z)
      go (inl e) (inr (j, h, f)) r = inr (a, j, Memᴰ.head refl, h, e ∙ f)
      go (inr e) r (inl z) = inl (e ∙ z)
      go (inr e) r (inr (i, j, hi, hj, f)) = inr (i, j, Memᴰ.tail hi, Memᴰ.tail hj, e ∙ f)

  module _ (swap : (i j : ℕ) → entry q i j ≡ entry q j i) where
    widest_over : (l : List ℕ) (i j : ℕ) → Memᴰ i l → Memᴰ j l → entry q i j ≤ widest_of q l
    unfolding widest_of
    widest_over [] i j x'' m = elim x'' [ ]
    widest_over (a ∷ l) i j (Memᴰ.head e) m =
        let z : entry q i j ≡ entry q a j = ap (λ (x : ℕ). entry q x j) e in omega (arith, farthest_over (get_or q a []) (a ∷ l) j m)
    widest_over (a ∷ l) i j (Memᴰ.tail m) (Memᴰ.head f) =
        let z : entry q i j ≡ entry q a i = ap (entry q i) f ∙ swap i a in omega (arith, farthest_over (get_or q a []) (a ∷ l) i (Memᴰ.tail m))
    widest_over (a ∷ l) i j (Memᴰ.tail m) (Memᴰ.tail n) = omega (arith, widest_over l i j m n)

module _ (s : Sinks) where
  -- two sinks without a delay
  of_two : (i j a : ℕ) → Memᴰ a (i ∷ j ∷ []) → (a ≡ i) ⊎ (a ≡ j)
  of_two i j a (Memᴰ.head e) = inl e
  of_two i j a (Memᴰ.tail (Memᴰ.tail x8)) = elim x8 [ ]
  of_two i j a (Memᴰ.tail (Memᴰ.head e)) = inr e

  pub pair-diameter : ((i : ℕ) → s.wait i ≡ 0) → (i j : ℕ) → diameter s (i ∷ j ∷ []) ≡ dist (s.at i) (s.at j)
  pair-diameter no-wait i j =
      let (a, b, ma, mb, e) = diam_met s i (j ∷ []) in
      omega (
        arith,
        diam_over s (i ∷ j ∷ []) i j (Memᴰ.head refl) (Memᴰ.tail (Memᴰ.head refl)),
        e,
        no-wait i,
        no-wait j,
        no-wait a,
        no-wait b,
        near a b (of_two i j a ma) (of_two i j b mb),
      )
    where
      near : (a b : ℕ) → (a ≡ i) ⊎ (a ≡ j) → (b ≡ i) ⊎ (b ≡ j) → dist (s.at a) (s.at b) ≤ dist (s.at i) (s.at j)
      near a b (inl e) (inl f) = rw (e, f) (omega (arith, dist_self (s.at i)))
      near a b (inl e) (inr f) = rw (e, f) (omega arith)
      near a b (inr e) (inl f) = rw (e, f) (omega (arith, dist_swap (s.at i) (s.at j)))
      near a b (inr e) (inr f) = rw (e, f) (omega (arith, dist_self (s.at j)))

  module _ (few : s.n ≤ 32) (q : List (List ℕ)) (square : Square s q) where
    swap : (i j : ℕ) → entry q i j ≡ entry q j i
    swap i j = go (or_lt i s.n) (or_lt j s.n)
      where
        go : (i < s.n) ⊎ (s.n ≤ i) → (j < s.n) ⊎ (s.n ≤ j) → entry q i j ≡ entry q j i
        go (inl h) (inl k) = omega (arith, square.near i j h k, dist_swap (s.at i) (s.at j), square.near j i k h)
        go (inr h) r = square.no_row i j h ∙ sym (square.no_column j i h)
        go (inl h) (inr k) = square.no_column i j k ∙ sym (square.no_row j i k)

    under : (m i j : ℕ) → Memᴰ i (sinks_in_subset 32 m) → Memᴰ j (sinks_in_subset 32 m) → entry q i j ≤ diameter s (sinks_in_subset s.n m)
    under m i j mi mj = go (or_lt i s.n) (or_lt j s.n)
      where
        go : (i < s.n) ⊎ (s.n ≤ i) → (j < s.n) ⊎ (s.n ≤ j) → entry q i j ≤ diameter s (sinks_in_subset s.n m)
        go (inl h) (inl k) =
            omega (
              arith,
              square.near i j h k,
              diam_over s (sinks_in_subset s.n m) i j (in_sinks s.n m i h (sinks_in 32 m i mi).1) (in_sinks s.n m j k (sinks_in 32 m j mj).1),
            )
        go (inr h) r = omega (arith, square.no_row i j h)
        go (inl h) (inr k) = omega (arith, square.no_column i j k)

    over : (m : ℕ) (l : List ℕ) → ((i : ℕ) → Memᴰ i l → (i < s.n) × Memᴰ i (sinks_in_subset 32 m)) → diameter s l ≤ widest_of q (sinks_in_subset 32 m)
    over m [] below = omega (arith, diam_none s)
    over m (h ∷ l) below =
        let (i, j, mi, mj, e) = diam_met s h l in
        let bi = below i mi in
        let bj = below j mj in
        omega (arith, e, square.near i j bi.0 bj.0, widest_over q swap (sinks_in_subset 32 m) i j bi.1 bj.1)

    -- THE TIE: what the code finds in the square is document 01's diameter
    pub widest_is : (m : ℕ) → widest q m ≡ diam s m
    unfolding widest diam Met
    widest_is m =
        let up : diameter s (sinks_in_subset s.n m) ≤ widest_of q (sinks_in_subset 32 m) =
        over m (sinks_in_subset s.n m) (λ i h. let k = sinks_in s.n m i h in (k.0, in_sinks 32 m i (omega (arith, k.0)) k.1)) in
        ⊎_elim
        (λ z. omega arith)
        (λ (i, j, mi, mj, e). omega (arith, under m i j mi mj))
        (widest_met q (sinks_in_subset 32 m))

    pub widest_all : widest q ≡ diam s
    widest_all = λ k m. widest_is m k
