-- Document 000, Lemma 1: the diameter of a set of sinks is the greatest of how far two of them are apart, their delays included, and of twice the delay of one.
use mathlib.Core.Path.{◌≡◌, refl, ap, ◌∙◌}
use mathlib.Core.Logic.{◌⊎◌, inl, inr, ⊎_elim}
use mathlib.Core.Bool.{Bool, true, false}
use mathlib.Core.List.{List, [], ◌∷◌, Memᴰ}
use Prim.Native.Nat.{ℕ, ◌+◌, ◌*◌, ◌≤◌, ◌<◌, max}
use native.Mathlib.Omega.{arith}
use borrow.Author.Tests.{eqb-true, eqb-false}
use lib.Dec.{eqb}
use lib.ListN.{length}
use lib.IntN.{ℤ, pos, ◌+ℤ◌, ◌-ℤ◌, nat_abs}
use Rattle.zero_skew.specs.Plane.{Sinks, dist, u, v}
use Rattle.zero_skew.specs.Box.{larger, smaller, greatest, least, high, low, width, diameter, apart, GreatestApart}
use Rattle.lists.proofs.Tests.{or_le}
use Rattle.zero_skew.proofs.Distance.{dist_self}
use Rattle.zero_skew.proofs.Whole.{◌⊑◌, tilt, larger_l, larger_r, larger_one, smaller_l, smaller_r, smaller_one, moved_out, in_range_lem}

⊑_trans : (a b c : ℤ) → a ⊑ b → b ⊑ c → a ⊑ c
⊑_trans a b c p q = omega arith

module _ (f : ℕ → ℤ) where
  pub greatest_over : (l : List ℕ) (j : ℕ) → Memᴰ j l → f j ⊑ greatest f l
  unfolding greatest
  greatest_over [] j x' = elim x' [ ]
  greatest_over (i ∷ []) j (Memᴰ.tail m) = elim m [ ]
  greatest_over (i ∷ []) j (Memᴰ.head e) = rw e (omega arith)
  greatest_over (i ∷ (h ∷ l)) j (Memᴰ.head e) = rw e (larger_l (f i) (greatest f (h ∷ l)))
  greatest_over (i ∷ (h ∷ l)) j (Memᴰ.tail m) =
      ⊑_trans (f j) (greatest f (h ∷ l)) (larger (f i) (greatest f (h ∷ l))) (greatest_over (h ∷ l) j m) (larger_r (f i) (greatest f (h ∷ l)))

  pub least_under : (l : List ℕ) (j : ℕ) → Memᴰ j l → least f l ⊑ f j
  unfolding least
  least_under [] j x' = elim x' [ ]
  least_under (i ∷ []) j (Memᴰ.tail m) = elim m [ ]
  least_under (i ∷ []) j (Memᴰ.head e) = rw e (omega arith)
  least_under (i ∷ (h ∷ l)) j (Memᴰ.head e) = rw e (smaller_l (f i) (least f (h ∷ l)))
  least_under (i ∷ (h ∷ l)) j (Memᴰ.tail m) =
      ⊑_trans (smaller (f i) (least f (h ∷ l))) (least f (h ∷ l)) (f j) (smaller_r (f i) (least f (h ∷ l))) (least_under (h ∷ l) j m)

  pub greatest_met : (i : ℕ) (l : List ℕ) → (j : ℕ) × Memᴰ j (i ∷ l) × (greatest f (i ∷ l) ≡ f j)
  unfolding greatest
  greatest_met i [] = (i, Memᴰ.head refl, refl)
  greatest_met i (h ∷ l) =
      let (j, m, e) = greatest_met h l in
      ⊎_elim (λ p. (i, Memᴰ.head refl, p)) (λ p. (j, Memᴰ.tail m, p ∙ e)) (larger_one (f i) (greatest f (h ∷ l)))

  pub least_met : (i : ℕ) (l : List ℕ) → (j : ℕ) × Memᴰ j (i ∷ l) × (least f (i ∷ l) ≡ f j)
  unfolding least
  least_met i [] = (i, Memᴰ.head refl, refl)
  least_met i (h ∷ l) =
      let (j, m, e) = least_met h l in
      ⊎_elim (λ p. (i, Memᴰ.head refl, p)) (λ p. (j, Memᴰ.tail m, p ∙ e)) (smaller_one (f i) (least f (h ∷ l)))

  -- a set within another lies between the other's ends
  pub greatest_within : (i : ℕ) (l m : List ℕ) → ((j : ℕ) → Memᴰ j (i ∷ l) → Memᴰ j m) → greatest f (i ∷ l) ⊑ greatest f m
  greatest_within i l m below = let (j, h, e) = greatest_met i l in rw e (greatest_over m j (below j h))

  pub least_within : (i : ℕ) (l m : List ℕ) → ((j : ℕ) → Memᴰ j (i ∷ l) → Memᴰ j m) → least f m ⊑ least f (i ∷ l)
  least_within i l m below = let (j, h, e) = least_met i l in rw e (least_under m j (below j h))

module _ (s : Sinks) where
  -- the distance, by the tilted coordinates
  tilted : (i j : ℕ) → max (nat_abs (u s i -ℤ u s j)) (nat_abs (v s i -ℤ v s j)) ≡ dist (s.at i) (s.at j)
  tilted i j = tilt (s.at i).x (s.at j).x (s.at i).y (s.at j).y

  width_over : (c : ℕ → ℤ) (l : List ℕ) (i j : ℕ) → Memᴰ i l → Memᴰ j l → nat_abs (c i -ℤ c j) + (s.wait i + s.wait j) ≤ width s c l
  width_over c l i j mi mj =
      in_range_lem (c i) (c j) (low s c l) (high s c l) (s.wait i) (s.wait j)
      (greatest_over _ l i mi) (greatest_over _ l j mj) (least_under _ l i mi) (least_under _ l j mj)

  abbrev Spans : (ℕ → ℤ) → List ℕ → Type 0
  Spans c l = (i : ℕ) × (j : ℕ) × Memᴰ i l × Memᴰ j l × (width s c l ≤ nat_abs (c i -ℤ c j) + (s.wait i + s.wait j))

  width_met : (c : ℕ → ℤ) (h : ℕ) (l : List ℕ) → Spans c (h ∷ l)
  width_met c h l =
      let (i, mi, ei) = greatest_met (λ j. c j +ℤ pos (s.wait j)) h l in
      let (j, mj, ej) = least_met (λ j. c j -ℤ pos (s.wait j)) h l in
      (i, j, mi, mj, rw (ei, ej) (moved_out (c i) (c j) (s.wait i) (s.wait j)))

  -- no two sinks of the set are further apart than the diameter
  pub diam_over : (l : List ℕ) (i j : ℕ) → Memᴰ i l → Memᴰ j l → apart s i j ≤ diameter s l
  unfolding diameter
  diam_over l i j mi mj = omega (arith, tilted i j, width_over (u s) l i j mi mj, width_over (v s) l i j mi mj)

  abbrev Met : List ℕ → Type 0
  Met l = (i : ℕ) × (j : ℕ) × Memᴰ i l × Memᴰ j l × (diameter s l ≡ apart s i j)

  -- and two are as far apart
  pub diam_met : (h : ℕ) (l : List ℕ) → Met (h ∷ l)
  unfolding diameter
  diam_met h l = ⊎_elim (λ p. by_v p (width_met (v s) h l)) (λ p. by_u p (width_met (u s) h l)) (or_le (width s (u s) (h ∷ l)) (width s (v s) (h ∷ l)))
    where
      by_u : width s (v s) (h ∷ l) ≤ width s (u s) (h ∷ l) → Spans (u s) (h ∷ l) → Met (h ∷ l)
      by_u p (i, j, mi, mj, w) = (i, j, mi, mj, omega (arith, tilted i j, diam_over (h ∷ l) i j mi mj))

      by_v : width s (u s) (h ∷ l) ≤ width s (v s) (h ∷ l) → Spans (v s) (h ∷ l) → Met (h ∷ l)
      by_v p (i, j, mi, mj, w) = (i, j, mi, mj, omega (arith, tilted i j, diam_over (h ∷ l) i j mi mj))

  pub diam_none : diameter s [] ≡ 0
  unfolding diameter greatest least
  diam_none = refl

  -- a set within another has no larger diameter
  pub diam_within : (l m : List ℕ) → ((i : ℕ) → Memᴰ i l → Memᴰ i m) → diameter s l ≤ diameter s m
  diam_within [] m below = rw diam_none (omega arith)
  diam_within (h ∷ l) m below =
      let (i, j, mi, mj, e) = diam_met h l in
      rw e (diam_over m i j (below i mi) (below j mj))

  own : (i : ℕ) → apart s i i ≡ 2 * s.wait i
  own i = omega (arith, dist_self (s.at i))

  -- LEMMA 1, with delays
  pub greatest_apart : (l : List ℕ) → 0 < length l → GreatestApart s l (diameter s l)
  greatest_apart [] some = absurd (omega arith)
  greatest_apart (h ∷ l) some =
      record {
        of_two = λ i j mi mj r. diam_over (h ∷ l) i j mi mj;
        of_one = λ i m. omega (arith, own i, diam_over (h ∷ l) i i m m);
        reached = go (diam_met h l);
      }
    where
      go : Met (h ∷ l) → ((i : ℕ) × (j : ℕ) × Memᴰ i (h ∷ l) × Memᴰ j (h ∷ l) × (i ≡ j → ⊥) × (diameter s (h ∷ l) ≡ apart s i j)) ⊎ ((i : ℕ) × Memᴰ i (h ∷ l) × (diameter s (h ∷ l) ≡ 2 * s.wait i))
      go (i, j, mi, mj, e) = pick (eqb i j) refl
        where
          pick : (t : Bool) → eqb i j ≡ t → ((i : ℕ) × (j : ℕ) × Memᴰ i (h ∷ l) × Memᴰ j (h ∷ l) × (i ≡ j → ⊥) × (diameter s (h ∷ l) ≡ apart s i j)) ⊎ ((i : ℕ) × Memᴰ i (h ∷ l) × (diameter s (h ∷ l) ≡ 2 * s.wait i))
          pick true q = inr (j, mj, e ∙ ap (λ (k : ℕ). apart s k j) (eqb-true i j q) ∙ own j)
          pick false q = inl (i, j, mi, mj, eqb-false i j q, e)
