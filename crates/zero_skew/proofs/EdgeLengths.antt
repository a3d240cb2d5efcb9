-- The edge lengths of a join: the least that balance and reach are unique, those of 000, section II.B, and document 01's wires.
use mathlib.Core.Path.{◌≡◌, sym, ◌∙◌, ap}
use mathlib.Core.Logic.{◌⊎◌, ⊎_elim}
use mathlib.Core.List.{[], List, ◌∷◌, ◌++◌, Memᴰ}
use Prim.Native.Nat.{ℕ, ◌+◌, ◌-◌, ◌*◌, ◌≤◌}
use native.Mathlib.Nat.{mul-add, mul-le-mul_left}
use native.Mathlib.Omega.{arith}
use Rattle.lists.proofs.Tests.{or_le}
use Rattle.zero_skew.specs.Plane.{Sinks}
use Rattle.zero_skew.specs.Box.{diameter}
use Rattle.zero_skew.specs.Region.{Region, distance}
use Rattle.zero_skew.specs.DeferredMerge.{Merges, EdgeLengths, segment}
use Rattle.zero_skew.proofs.Hull.{under_l, under_r}
use Rattle.zero_skew.proofs.Merge.{reach, tight}

-- no lengths whose ends balance have less together than e and f, which lead from a and from b to d
few : (k a b d e f g x y : ℕ) → e + a ≡ d → f + b ≡ d → (d ≤ a) ⊎ ((d ≤ b) ⊎ (2 * d ≤ g + (a + b))) → x + k * a ≡ y + k * b → k * g ≤ x + y → k * (e + f) ≤ x + y
few k a b d e f g x y ea fb t bal rch =
    let de : k * d ≡ k * e + k * a = ap (λ n. k * n) (sym ea) ∙ mul-add k e a in
    let df : k * d ≡ k * f + k * b = ap (λ n. k * n) (sym fb) ∙ mul-add k f b in
    let up : k * d ≤ x + k * a =
    ⊎_elim (λ p. omega (arith, mul-le-mul_left k p)) (λ q. ⊎_elim (λ p. omega (arith, mul-le-mul_left k p))
    (λ p. omega (arith, mul-le-mul_left k p, mul-add k g (a + b), mul-add k a b, ap (λ n. k * n) (twice d), mul-add k d d)) q) t in
    omega (arith, mul-add k e f)
  where
    twice : (n : ℕ) → 2 * n ≡ n + n
    twice n = omega arith

-- the least lengths are unique, among lengths of whatever fineness
one_pair : (A : Region) (p : ℕ) (B : Region) (q e f k x y : ℕ) → EdgeLengths A p B q e f → Merges k A p B q x y → x + y ≤ k * (e + f) → (x ≡ k * e) × (y ≡ k * f)
one_pair A p B q e f k x y h m w =
    let even : e + p ≡ f + q = omega (arith, h.merges.balanced) in
    let l = h.least k x y m in (
      omega (arith, m.balanced, mul-add k e f, mul-add k e p, mul-add k f q, ap (λ n. k * n) even),
      omega (arith, m.balanced, mul-add k e f, mul-add k e p, mul-add k f q, ap (λ n. k * n) even),
    )

pub same_pair : (A : Region) (p : ℕ) (B : Region) (q e f x y : ℕ) → EdgeLengths A p B q e f → EdgeLengths A p B q x y → (e ≡ x) × (f ≡ y)
same_pair A p B q e f x y h k =
    let (p, q) = one_pair A p B q x y 1 e f k h.merges (omega (arith, h.least 1 x y k.merges)) in
    (omega arith, omega arith)

-- ---- the edge lengths by cases (000, section II.B), where the one path is no longer than the other
pub lengths_by_cases : (A : Region) (p : ℕ) (B : Region) (q e f : ℕ) → p ≤ q → EdgeLengths A p B q e f → (q - p ≤ distance A B → e + f ≡ distance A B) × (distance A B ≤ q - p → (e ≡ q - p) × (f ≡ 0))
lengths_by_cases A p B q e f pq h = (
  (λ w. omega (arith, h.merges.reached, h.least 2 (distance A B + (q - p)) (distance A B - (q - p)) (record { balanced = omega arith; reached = omega arith }))),
  (λ w. let k = h.least 1 (q - p) 0 (record { balanced = omega arith; reached = omega arith }) in (omega (arith, h.merges.balanced), omega (arith, h.merges.balanced))),
)

pub lengths_of_cases : (A : Region) (p : ℕ) (B : Region) (q e f : ℕ) → p ≤ q → e + p ≡ f + q → (q - p ≤ distance A B → e + f ≡ distance A B) → (distance A B ≤ q - p → f ≡ 0) → EdgeLengths A p B q e f
lengths_of_cases A p B q e f pq bal near far-off =
    ⊎_elim
    (λ w. record { merges = record { balanced = omega arith; reached = omega (arith, near w) }; least = λ k x y m. rw (near w) m.reached })
    (λ w. record { merges = record { balanced = omega arith; reached = omega (arith, far-off w) }; least = λ k x y m. omega (arith, m.balanced, times k (far-off w)) })
    (or_le (q - p) (distance A B))
  where
    times : (k : ℕ) → f ≡ 0 → k * (e + f) + k * p ≡ k * q
    times k z = sym (mul-add k (e + f) p) ∙ ap (λ n. k * n) (omega arith)

module _ (s : Sinks) where
  -- document 01's wires are the edge lengths of a join
  pub edges : (a b : List ℕ) (i j : ℕ) → Memᴰ i a → Memᴰ j b → EdgeLengths (segment s a) (diameter s a) (segment s b) (diameter s b) (diameter s (a ++ b) - diameter s a) (diameter s (a ++ b) - diameter s b)
  edges [] b i j mi mj = elim mi [ ]
  edges (h ∷ l) [] i j mi mj = elim mj [ ]
  edges (h ∷ l) (g ∷ m) i j mi mj =
      let da : diameter s (h ∷ l) ≤ diameter s ((h ∷ l) ++ (g ∷ m)) = under_l s (h ∷ l) (g ∷ m) in
      let db : diameter s (g ∷ m) ≤ diameter s ((h ∷ l) ++ (g ∷ m)) = under_r s (h ∷ l) (g ∷ m) in
      record {
        merges = record { balanced = omega arith; reached = omega (arith, reach s h l g m) };
        least = λ k x y e. few k (diameter s (h ∷ l)) (diameter s (g ∷ m)) (diameter s ((h ∷ l) ++ (g ∷ m))) _ _ (distance (segment s (h ∷ l)) (segment s (g ∷ m))) x y
            (omega arith) (omega arith) (tight s h l g m) e.balanced e.reached;
      }
