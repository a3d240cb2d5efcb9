-- The first row whose partner is nearest names the pair to join, where that partner is live; where it is gone, the row is looked through again.
use mathlib.Core.Path.{◌≡◌, refl, sym, ap, subst, ◌∙◌}
use mathlib.Core.Logic.{⊎_elim}
use mathlib.Core.Bool.{Bool, true, false}
use mathlib.Core.List.{List}
use Prim.Native.Nat.{ℕ, zero, suc, ◌-◌, ◌<◌}
use native.Mathlib.Omega.{arith}
use borrow.Author.Tests.{eqb-true, eqb-false}
use lib.Dec.{eqb}
use lib.ListN.{length, get_or}
use Rattle.lists.proofs.Tests.{or_lt}
use Rattle.measures.specs.Boxes.{InOrder}
use Rattle.measures.specs.declared.boxes.Box.{Box}
use Rattle.partners.specs.declared.pair.Near.{Near}
use Rattle.partners.specs.Closest.{pair, best}
use Rattle.partners.specs.Rule.{In, Leads, Chosen}
use Rattle.partners.specs.Rule.In.{hit, next}
use Rattle.partners.specs.Boxes.{Upright, reach}
use Rattle.partners.specs.Live.{Below, Rising}
use Rattle.partners.specs.declared.rows.Rows.{Rows}
use Rattle.partners.specs.Rows.{Row, row_at, span, given, Lowest, NearestAfter, Right}
use Rattle.partners.proofs.Members.{all_at, all_in, rising_at, rising_up}
use Rattle.partners.proofs.Ruled.{best_chosen, only_chosen}
use Rattle.partners.proofs.Entering.{Fits, right_fits, fits_right, fits_as, span_is}

-- ---- where a live node stands
record Place (ls : List ℕ) (x : ℕ) : Type 0 where
  at : ℕ
  inside : at < length ls
  is : get_or ls at 0 ≡ x

place : {x : ℕ} {ls : List ℕ} → In x ls → Place ls x
place hit = record { at = zero; inside = omega arith; is = refl }
place (next i) = let p = place i in record { at = suc p.at; inside = omega (arith, p.inside); is = p.is }

-- in a rising list the lower entry stands first
rising_from : {ls : List ℕ} (s t : ℕ) → Rising ls → s < length ls → get_or ls s 0 < get_or ls t 0 → s < t
rising_from {ls} s t r h l =
    ⊎_elim
    (λ p. p)
    (λ p. ⊎_elim (λ q. (let g = rising_at t s r q h in let z : ⊥ = omega arith in absurd z)) (λ q. (let e : s ≡ t = omega arith in let f = ap (λ (o : ℕ). get_or ls o 0) e in let z : ⊥ = omega arith in absurd z)) (or_lt t s))
    (or_lt s t)

-- the box of a row has its ends in order, as those of all nodes have
pub row_in_order : {bs : List Box} {live : List ℕ} {m : ℕ} {row : ℕ → Row} (t : ℕ) → Upright m bs → Below m live → Right bs live m row → t < length live → InOrder (row t).box
row_in_order {live = live} t u low v h = subst InOrder (sym (v.box t h)) (u (get_or live t 0) (all_at t low h))

-- ---- the pair to join
module _ {bs : List Box} {live : List ℕ} {rows : Rows} {m a : ℕ} (r : Rising live) (v : Right bs live m (row_at rows)) (k : ℕ) (e : k ≡ length live) (w : Lowest rows (k - 1) a) (b : ℕ) (h : b < k) (n : get_or live b 0 ≡ (row_at rows a).at) where
  far_is : (row_at rows a).far ≡ reach bs (get_or live a 0) (get_or live b 0)
  far_is = rw n (v.named a (omega (arith, w.one))).0

  lead_at : (s t : ℕ) → s < t → t < length live → Leads (reach bs) (pair (get_or live a 0) (get_or live b 0)) (pair (get_or live s 0) (get_or live t 0))
  lead_at s t l g =
      let f = w.least s (omega arith) in
      let d = v.near s t l g in
      record {
        nearer = omega (arith, far_is);
        then_low = λ q. ⊎_elim (λ p. (let y = w.first s p in let z : ⊥ = omega (arith, far_is) in absurd z)) (λ p. rising_up a s r p (omega arith)) (or_lt s a);
        then_high = λ q o.
            (let c = rising_at s t r l g in
            let i = rising_from a t r (omega (arith, w.one)) (omega arith) in
            omega (arith, n, v.first a t i g (far_is ∙ q ∙ ap (λ (x : ℕ). reach bs x (get_or live t 0)) (sym o))));
      }

  pub chosen_up : a < b
  chosen_up = rising_from a b r (omega (arith, w.one)) (omega (arith, n, (v.named a (omega (arith, w.one))).1))

  pub right_chosen : pair (get_or live a 0) (get_or live b 0) ≡ best (reach bs) live
  right_chosen = only_chosen (reach bs) picked (best_chosen (reach bs) r (omega (arith, w.one)))
    where
      picked : Chosen (reach bs) live (pair (get_or live a 0) (get_or live b 0))
      picked =
          record {
            low_live = all_at a (all_in live) (omega (arith, w.one));
            high_live = all_at b (all_in live) (omega arith);
            up = omega (arith, n, (v.named a (omega (arith, w.one))).1);
            leads = λ x y i j l.
                (let p = place i in
                let q = place j in
                rw (p.is, q.is) at (lead_at p.at q.at (rising_from p.at q.at r p.inside (omega (arith, p.is, q.is))) q.inside));
          }

-- ---- a row with the first of the nearest is right
module _ {bs : List Box} {live : List ℕ} {rows : Rows} {m a : ℕ} {r : Near} (up : Rising live) (v : Right bs live m (row_at rows)) (low : Below m live) (w : NearestAfter rows live a r) where
  span_at : (t : ℕ) → t < length live → span (row_at rows a) (row_at rows t).box ≡ reach bs (get_or live a 0) (get_or live t 0)
  span_at t h = span_is bs (row_at rows a) (row_at rows t).box (get_or live a 0) (get_or live t 0) (v.box a (omega (arith, w.later, w.inside))) (v.box t h)

  mend_fits : Fits bs live m a (given (row_at rows a) r.at r.far)
  mend_fits =
      let x = get_or live a 0 in
      record {
        box = v.box a (omega (arith, w.later, w.inside));
        near = λ t l g. omega (arith, span_at t g, w.least t l g);
        first = λ t l g q.
            ⊎_elim
            (λ p. (let f = w.first t l p in let z : ⊥ = omega (arith, span_at t g) in absurd z))
            (λ p. omega (arith, w.names, rising_up w.place t up p g))
            (or_lt t w.place);
        named = λ g. (
          w.far ∙ span_at w.place w.inside ∙ ap (reach bs x) (sym w.names),
          omega (arith, w.names, rising_at a w.place up w.later w.inside),
          omega (arith, w.names, all_at w.place low w.inside),
        );
      }

  pub right_mend : {row' : ℕ → Row} → ((t : ℕ) → t < length live → (t ≡ a → ⊥) → row' t ≡ row_at rows t) → row' a ≡ given (row_at rows a) r.at r.far → Right bs live m row'
  right_mend {row'} others here = fits_right (λ s h. go s h (eqb s a) refl)
    where
      go : (s : ℕ) → s < length live → (c : Bool) → eqb s a ≡ c → Fits bs live m s (row' s)
      go s h true e = subst (λ (o : ℕ). Fits bs live m o (row' o)) (sym (eqb-true s a e)) (fits_as here mend_fits)
      go s h false e = fits_as (others s h (eqb-false s a e)) (right_fits v s h)
