-- Two permitted outcomes of a function on boxes coincide: no two fours of words stand for the same box.
use mathlib.Core.Path.{◌≡◌, refl, sym, ap, ◌∙◌}
use mathlib.Core.List.{List, [], ◌∷◌}
use Prim.Native.Nat.{ℕ}
use native.Mathlib.Omega.{arith}
use lib.IntN.{ℤ}
use lib.ListN.{length}
use Rattle.zero_skew.specs.Box.{Bounds, hull, across}
use Rattle.plane.specs.Said.{Said}
use Rattle.plane.specs.Said.Said.{answered, refused}
use Rattle.measures.specs.Boxes.{numbers_of, box_in}
use Rattle.plane.specs.Bounds.{box_answer, verdict, held_after, widened_by, sink_bounds}
use Rattle.plane.specs.declared.refusal.Refusal.{Refusal}
use Rattle.std.specs.Prelude.{Err}
use Rattle.plane.specs.Refusals.{Checked}
use Rattle.plane.proofs.Unlifted.{bounds_once}
use Rattle.skeprafter_c.specs.Kept.{held, ends_of, StandsFor, Keeps, Boxes, Widens}

-- four words are those of the box that they stand for
words_back : (k : List ℕ) → length k ≡ 4 → numbers_of (box_in k) ≡ k
words_back [] e = let z : ⊥ = omega (arith, e) in absurd z
words_back (a ∷ []) e = let z : ⊥ = omega (arith, e) in absurd z
words_back (a ∷ b ∷ []) e = let z : ⊥ = omega (arith, e) in absurd z
words_back (a ∷ b ∷ c ∷ []) e = let z : ⊥ = omega (arith, e) in absurd z
words_back (a ∷ b ∷ c ∷ d ∷ []) e = refl
words_back (a ∷ b ∷ c ∷ d ∷ f ∷ l) e = let z : ⊥ = omega (arith, e) in absurd z

pub stands_once : (b : Bounds) {k l : List ℕ} → StandsFor k b → StandsFor l b → k ≡ l
stands_once b {k} {l} p q =
    sym (words_back k p.four) ∙ ap numbers_of (bounds_once (box_in k) (box_in l) (p.holds ∙ sym q.holds)) ∙ words_back l q.four

keeps_once : (s : Said Bounds) (kept : List ℕ) {k l : List ℕ} → Keeps s kept k → Keeps s kept l → k ≡ l
keeps_once (answered b) kept p q = stands_once b p q
keeps_once (refused n place) kept p q = p ∙ sym q

-- the words that are kept, and what is said
pub only_skeprafter_box_of : (xs ys : List ℤ) (delays kept : List ℕ) {k k' s s' : List ℕ} → Boxes xs ys delays kept k s → Boxes xs ys delays kept k' s' → (k ≡ k') × (s ≡ s')
only_skeprafter_box_of xs ys delays kept p q = (keeps_once (box_answer xs ys delays) kept p.keeps q.keeps, p.says ∙ sym q.says)

pub only_skeprafter_widen : (kept : List ℕ) (x y : ℤ) (w : ℕ) {k k' s s' : List ℕ} → Widens kept x y w k s → Widens kept x y w k' s' → (k ≡ k') × (s ≡ s')
only_skeprafter_widen kept x y w p q = (stands_once (widened_by (held kept) x y w) p.keeps q.keeps, p.says ∙ sym q.says)

-- "the held box stays as it is", to the word: where the sink is refused, and four words were lent
pub refused_stays : (kept : List ℕ) (x y : ℤ) (w : ℕ) (r : Refusal) {k s : List ℕ} → length kept ≡ 4 → verdict x y w ≡ Err r → Widens kept x y w k s → k ≡ kept
refused_stays kept x y w r h e p =
    let same = ap (λ (c : Checked). held_after c (held kept) (hull (held kept) (sink_bounds x y w))) e in
    stands_once (held kept) (record { four = p.keeps.four; holds = p.keeps.holds ∙ same }) (record { four = h; holds = refl })

pub only_skeprafter_ends : (kept : List ℕ) {e e' : List ℤ} → e ≡ ends_of (held kept) → e' ≡ ends_of (held kept) → e ≡ e'
only_skeprafter_ends kept p q = p ∙ sym q

pub only_skeprafter_diameter : (kept : List ℕ) {d d' : ℕ} → d ≡ across (held kept) → d' ≡ across (held kept) → d ≡ d'
only_skeprafter_diameter kept p q = p ∙ sym q
