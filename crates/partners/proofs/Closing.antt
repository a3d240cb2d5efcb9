-- Two live nodes leave and the rows after them move up: what is kept stays right.
use mathlib.Core.Path.{◌≡◌, refl, sym, ap, ◌∙◌}
use mathlib.Core.Logic.{⊎_elim}
use mathlib.Core.Bool.{true}
use mathlib.Core.List.{List, [], ◌∷◌}
use Prim.Native.Nat.{ℕ, zero, suc, ◌+◌, ◌-◌, ◌≤◌, ◌<◌}
use native.Mathlib.Omega.{arith}
use borrow.Author.Tests.{eq-eqb, ne_eqb}
use lib.ListN.{length, get_or, take, length-append, get_or-append}
use lib.Seq.{get_or-take, get_or_at, length-take-le, ext_get_or}
use Rattle.lists.proofs.Tests.{or_lt}
use Rattle.partners.specs.declared.pair.Pair.{Pair}
use Rattle.partners.specs.Closest.{is_of, without, after}
use Rattle.partners.specs.Rule.{In}
use Rattle.measures.specs.declared.boxes.Box.{Box}
use Rattle.orders.specs.Table.{box_at}
use Rattle.partners.specs.Live.{All, Rising}
use Rattle.partners.specs.Live.All.{none, also}
use Rattle.partners.specs.Live.Each.{nil, cons}
use Rattle.partners.specs.Rows.{Row, skip, Right}
use Rattle.partners.proofs.Members.{all_at, all_in, not_of, rising_at}
use Rattle.partners.proofs.Packed.{two_left}
use Rattle.partners.proofs.Moving.{skip_before, skip_after, skip_under, skip_suc, skip_up}
use Rattle.partners.proofs.Entering.{Fits, fits_right, right_fits}

-- ---- the rows that stay are right beside the nodes that stay
pub right_close : {bs : List Box} {live live2 : List ℕ} {m : ℕ} {row : ℕ → Row} (a b : ℕ) → Right bs live m row → length live2 + 2 ≡ length live → ((t : ℕ) → t < length live2 → get_or live2 t 0 ≡ get_or live (skip b (skip a t)) 0) → Right bs live2 m (λ t. row (skip b (skip a t)))
right_close {bs} {live} {live2} {m} {row} a b v e f = fits_right moved
  where
    up : (s t : ℕ) → s < t → skip b (skip a s) < skip b (skip a t)
    up s t l = skip_up b (skip a s) (skip a t) (skip_up a s t l)

    under : (t : ℕ) → skip b (skip a t) ≤ t + 2
    under t = omega (arith, skip_under a t, skip_under b (skip a t))

    moved : (s : ℕ) → s < length live2 → Fits bs live2 m s (row (skip b (skip a s)))
    moved s h =
        let w = right_fits v (skip b (skip a s)) (omega (arith, under s)) in
        let n = f s h in
        record {
          box = w.box ∙ ap (box_at bs) (sym n);
          near = λ t l k. rw (n, f t k) (w.near (skip b (skip a t)) (up s t l) (omega (arith, under t)));
          first = λ t l k q.
              rw (f t k) (w.first (skip b (skip a t)) (up s t l) (omega (arith, under t)) (rw (n, f t k) at q));
          named = λ l. rw n (w.named (omega (arith, under s)));
        }

-- ---- and those are the nodes without the pair
none_out : (p : Pair) {ls : List ℕ} → p.low < p.high → All (λ y. p.high < y) ls → without p ls ≡ ls
none_out p h none = refl
none_out p h (also {a = x} l g) = rw (not_of p x (λ e. omega arith) (λ e. omega arith)) (ap (λ (o : List ℕ). x ∷ o) (none_out p h g))

one_out : (p : Pair) {ls : List ℕ} (b t : ℕ) → p.low < p.high → All (λ y. p.low < y) ls → Rising ls → b < length ls → get_or ls b 0 ≡ p.high → get_or (without p ls) t 0 ≡ get_or ls (skip b t) 0
one_out p b t h none nil l e = let z : ⊥ = omega arith in absurd z
one_out p zero t h (also {a = x} k g) (cons q r) l e =
    let i : is_of p x ≡ true = rw (ne_eqb x p.low (λ d. omega arith), eq-eqb x p.high e) in
    rw (i, skip_after 0 t (omega arith)) (ap (λ (o : List ℕ). get_or o t 0) (none_out p h (rw e at q)))
one_out p (suc b) zero h (also {a = x} k g) (cons q r) l e =
    let u = all_at b q (omega arith) in
    rw (skip_before (suc b) 0 (omega arith), not_of p x (λ d. omega arith) (λ d. omega arith))
one_out p (suc b) (suc t) h (also {a = x} k g) (cons q r) l e =
    let u = all_at b q (omega arith) in
    rw (skip_suc b t, not_of p x (λ d. omega arith) (λ d. omega arith)) (one_out p b t h g r (omega arith) e)

two_out : (p : Pair) {ls : List ℕ} (a b t : ℕ) → Rising ls → a < b → b < length ls → get_or ls a 0 ≡ p.low → get_or ls b 0 ≡ p.high → p.low < p.high → get_or (without p ls) t 0 ≡ get_or ls (skip b (skip a t)) 0
two_out p a b t nil h l e f u = let z : ⊥ = omega arith in absurd z
two_out p a zero t (cons q r) h l e f u = let z : ⊥ = omega arith in absurd z
two_out p zero (suc b) t (cons {a = x} q r) h l e f u =
    let i : is_of p x ≡ true = rw (eq-eqb x p.low e) in
    rw (i, skip_after 0 t (omega arith), skip_suc b t) (one_out p b t u (rw e at q) r (omega arith) f)
two_out p (suc a) (suc b) zero (cons {a = x} q r) h l e f u =
    let y = all_at a q (omega arith) in
    rw (skip_before (suc a) 0 (omega arith), skip_before (suc b) 0 (omega arith), not_of p x (λ d. omega arith) (λ d. omega arith))
two_out p (suc a) (suc b) (suc t) (cons {a = x} q r) h l e f u =
    let y = all_at a q (omega arith) in
    rw (skip_suc a t, skip_suc b (skip a t), not_of p x (λ d. omega arith) (λ d. omega arith)) (two_out p a b t r (omega arith) (omega arith) e f u)

pub without_at : (p : Pair) {live : List ℕ} (a b : ℕ) → Rising live → a < b → b < length live → get_or live a 0 ≡ p.low → get_or live b 0 ≡ p.high → ((t : ℕ) → t < length (without p live) → get_or (without p live) t 0 ≡ get_or live (skip b (skip a t)) 0) × (length (without p live) + 2 ≡ length live)
without_at p {live} a b r h l e f =
    let u : p.low < p.high = omega (arith, rising_at a b r h l) in
    let i : In p.low live = rw e at (all_at a (all_in live) (omega arith)) in
    let j : In p.high live = rw f at (all_at b (all_in live) l) in
    (λ t g. two_out p a b t r h l e f u, two_left p r (record { low_in = i; high_in = j; up = u }))

-- ---- and with the new one they are those after the join
pub left_after : (p : Pair) (m : ℕ) (live live' : List ℕ) (a b : ℕ) → length live' ≡ length live → length (without p live) + 2 ≡ length live → ((t : ℕ) → t < length (without p live) → get_or (without p live) t 0 ≡ get_or live (skip b (skip a t)) 0) → ((t : ℕ) → t + 2 < length live → get_or live' t 0 ≡ get_or live (skip b (skip a t)) 0) → get_or live' (length live - 2) 0 ≡ m → take (length live - 1) live' ≡ after p m live
left_after p m live live' a b s l f g h =
    let k = length live - 1 in
    let c : length (take k live') ≡ k = length-take-le k live' (omega arith) in
    ext_get_or 0 (take k live') (after p m live) (rw (c, length-append) (omega arith)) (λ t i. get_or-take k live' t 0 (omega arith) ∙ go t (omega arith))
  where
    go : (t : ℕ) → t + 1 < length live → get_or live' t 0 ≡ get_or (after p m live) t 0
    go t i =
        ⊎_elim
        (λ q. g t (omega arith) ∙ sym (f t q) ∙ sym (get_or-append (without p live) (m ∷ []) 0 t q))
        (λ q. (let e : t ≡ length live - 2 = omega arith in ap (λ (o : ℕ). get_or live' o 0) e ∙ h ∙ sym (get_or_at (without p live) m [] 0 t (omega arith))))
        (or_lt t (length (without p live)))
