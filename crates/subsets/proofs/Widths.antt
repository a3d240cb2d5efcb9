-- The diameters of all subsets by doubling: those with highest sink j, from those of the sinks before it.
use mathlib.Core.Path.{◌≡◌, refl, sym, ap, ap₂, subst, ◌∙◌}
use mathlib.Core.Logic.{◌≢◌, ◌⊎◌, inl, inr}
use mathlib.Core.Bool.{Bool, true, false}
use mathlib.Core.List.{List, [], ◌∷◌, ◌++◌}
use Prim.Native.Nat.{ℕ, zero, suc, ◌+◌, ◌-◌, ◌*◌, ◌/◌, ◌%◌, ◌^◌, ◌≤◌, ◌<◌, max}
use native.Mathlib.Nat.{div-one, div-div-eq-div-mul, pow-suc, pow-succ'}
use native.Mathlib.Omega.{arith}
use native.Mathlib.Decide.{ℕ_discrete}
use lib.Dec.{eqb}
use lib.ListN.{length, get_or, set}
use lib.Seq.{get_or-set_same, get_or-set_other}
use lib.Pow.{pow_mono}
use Rattle.lists.proofs.Tests.{or_lt}
use Rattle.subsets.specs.Square.{Changed, Widths, entry, farthest_of, farthest_to, held, farthest_in, widest, widest_of}
use Rattle.subsets.specs.Subsets.{holds, keep, keep_if, rising, sinks_in_subset}

-- ---- a subset's sinks, the highest last

-- the sinks of s by its digits: the places of the ones among the k lowest, the lowest of which is place i
unfoldable sinks_from : ℕ → ℕ → ℕ → List ℕ
sinks_from zero i s = []
sinks_from (suc k) i s = keep_if (eqb (s % 2) 1) i (sinks_from k (suc i) (s / 2))

from_zero : (d i : ℕ) → sinks_from d i 0 ≡ []
unfolding sinks_from
from_zero zero i = refl
from_zero (suc d) i = from_zero d (suc i)

from_keep : (d i s : ℕ) → sinks_from d i (s / 2 ^ i) ≡ keep (holds s) (rising d i)
unfolding sinks_from keep rising
from_keep zero i s = refl
from_keep (suc d) i s =
    ap (keep_if (eqb (s / 2 ^ i % 2) 1) i)
    (ap (sinks_from d (suc i)) (div-div-eq-div-mul s (2 ^ i) 2 ∙ ap (λ (x : ℕ). s / x) (sym (pow-suc 2 i))) ∙ from_keep d (suc i) s)

sinks_are : (s : ℕ) → sinks_in_subset 32 s ≡ sinks_from 32 0 s
unfolding sinks_in_subset
sinks_are s = sym (ap (sinks_from 32 0) (sym (div-one s)) ∙ from_keep 32 0 s)

sinks_zero : sinks_in_subset 32 0 ≡ []
sinks_zero = sinks_are 0 ∙ from_zero 32 0

keep_onto : (b : Bool) (x : ℕ) (l t : List ℕ) → keep_if b x (l ++ t) ≡ keep_if b x l ++ t
keep_onto true x l t = refl
keep_onto false x l t = refl

from_last : (d j i r : ℕ) → j < d → r < 2 ^ j → sinks_from d i (2 ^ j + r) ≡ sinks_from d i r ++ ((i + j) ∷ [])
unfolding sinks_from
from_last zero j i r h k = absurd (omega arith)
from_last (suc d) zero i r h k =
    let e : r ≡ 0 = omega arith in
    let f : i ≡ i + 0 = omega arith in
    rw (e, from_zero d (suc i)) (ap (λ (x : ℕ). x ∷ []) f)
from_last (suc d) (suc j) i r h k =
    let p : 2 ^ suc j ≡ 2 ^ j * 2 = pow-suc 2 j in
    let e : (2 ^ suc j + r) % 2 ≡ r % 2 = omega arith in
    let f : (2 ^ suc j + r) / 2 ≡ 2 ^ j + r / 2 = omega arith in
    let g : suc i + j ≡ i + suc j = omega arith in
    ap₂ (λ (x y : ℕ). keep_if (eqb x 1) i (sinks_from d (suc i) y)) e f
    ∙ ap (keep_if (eqb (r % 2) 1) i) (from_last d j (suc i) (r / 2) (omega arith) (omega arith) ∙ ap (λ (x : ℕ). sinks_from d (suc i) (r / 2) ++ (x ∷ [])) g)
    ∙ keep_onto (eqb (r % 2) 1) i (sinks_from d (suc i) (r / 2)) ((i + suc j) ∷ [])

sinks_last : (j r : ℕ) → j < 32 → r < 2 ^ j → sinks_in_subset 32 (2 ^ j + r) ≡ sinks_in_subset 32 r ++ (j ∷ [])
sinks_last j r h k =
    let e : 0 + j ≡ j = omega arith in
    sinks_are (2 ^ j + r) ∙ from_last 32 j 0 r h k ∙ ap₂ (λ (l : List ℕ) (x : ℕ). l ++ (x ∷ [])) (sym (sinks_are r)) e

-- ---- what one more sink at the end makes of a list's distances
farthest_last : (row l : List ℕ) (j : ℕ) → farthest_of row (l ++ (j ∷ [])) ≡ max (farthest_of row l) (get_or row j 0)
unfolding farthest_of
farthest_last row [] j = omega arith
farthest_last row (b ∷ l) j = omega (arith, farthest_last row l j)

onto : (a b c : ℕ) → max a (max b c) ≡ max (max a b) c
onto a b c = omega arith

turn : (a b c : ℕ) → max a (max b c) ≡ max b (max a c)
turn a b c = omega arith

across : (a b c d : ℕ) → max (max a b) (max c d) ≡ max (max a c) (max b d)
across a b c d = omega arith

module _ (q : List (List ℕ)) where
  to_last : (j : ℕ) (l : List ℕ) (i : ℕ) → farthest_to q j (l ++ (i ∷ [])) ≡ max (farthest_to q j l) (entry q i j)
  unfolding farthest_to
  to_last j [] i = omega arith
  to_last j (a ∷ l) i = omega (arith, to_last j l i)

  widest_last : (l : List ℕ) (j : ℕ) → widest_of q (l ++ (j ∷ [])) ≡ max (widest_of q l) (max (entry q j j) (farthest_to q j l))
  unfolding widest_of farthest_of farthest_to
  widest_last [] j = omega arith
  widest_last (a ∷ l) j =
      let f : ℕ = farthest_of (get_or q a []) l in
      let t : ℕ = max (entry q j j) (farthest_to q j l) in
      ap₂ (λ (x y : ℕ). max (max (entry q a a) x) y) (farthest_last (get_or q a []) l j) (widest_last l j)
      ∙ ap (λ (x : ℕ). max x (max (widest_of q l) t)) (onto (entry q a a) f (entry q a j))
      ∙ across (max (entry q a a) f) (entry q a j) (widest_of q l) t
      ∙ ap (max (max (max (entry q a a) f) (widest_of q l))) (turn (entry q a j) (entry q j j) (farthest_to q j l))

  farthest_zero : (j : ℕ) → farthest_in q j 0 ≡ entry q j j
  unfolding farthest_in farthest_to
  farthest_zero j = ap (λ (l : List ℕ). max (entry q j j) (farthest_to q j l)) sinks_zero ∙ omega arith

  farthest_more : (j i r : ℕ) → i < 32 → r < 2 ^ i → farthest_in q j (2 ^ i + r) ≡ max (farthest_in q j r) (entry q i j)
  unfolding farthest_in
  farthest_more j i r h k =
      ap (max (entry q j j)) (ap (farthest_to q j) (sinks_last i r h k) ∙ to_last j (sinks_in_subset 32 r) i)
      ∙ onto (entry q j j) (farthest_to q j (sinks_in_subset 32 r)) (entry q i j)

  widest_zero : widest q 0 ≡ 0
  unfolding widest widest_of
  widest_zero = ap (widest_of q) sinks_zero

  widest_more : (j r : ℕ) → j < 32 → r < 2 ^ j → widest q (2 ^ j + r) ≡ max (widest q r) (farthest_in q j r)
  unfolding widest farthest_in
  widest_more j r h k = ap (widest_of q) (sinks_last j r h k) ∙ widest_last (sinks_in_subset 32 r) j

-- ---- changed entries
pub changed_none : {at : ℕ} {f : ℕ → ℕ} {ds : List ℕ} → Changed at 0 f ds ds
changed_none = record { here = λ r h. absurd (omega arith); before = λ m h. refl; after = λ m h. refl }

-- the next one
pub changed_more : {at k : ℕ} {f : ℕ → ℕ} {a b : List ℕ} {v : ℕ} → Changed at k f a b → at + k < length b → v ≡ f k → Changed at (k + 1) f a (set b (at + k) v)
changed_more {at} {k} {f} {a} {b} {v} c h u = record {
  here = λ r l. new r l (ℕ_discrete r k);
  before = λ m l. other m (omega arith) ∙ c.before m l;
  after = λ m l. other m (omega arith) ∙ c.after m (omega arith);
}
  where
    other : (m : ℕ) → m ≢ at + k → held (set b (at + k) v) m ≡ held b m
    other m n = get_or-set_other b (at + k) m v 0 n

    new : (r : ℕ) → r < k + 1 → Dec (r ≡ k) → held (set b (at + k) v) (at + r) ≡ f r
    new r l (yes e) = rw e (get_or-set_same b (at + k) v 0 h ∙ u)
    new r l (no d) = let n : r ≢ k = d in other (at + r) (λ e. n (omega arith)) ∙ c.here r (omega (arith, n))

pub changed_all : {at k n : ℕ} {f : ℕ → ℕ} {a b : List ℕ} → k ≡ n → Changed at k f a b → Changed at n f a b
changed_all {at} {k} {n} {f} {a} {b} e c = subst (λ (x : ℕ). Changed at x f a b) e c

-- no sinks but j itself
pub farthest_start : (q : List (List ℕ)) (j half : ℕ) (ds : List ℕ) → half < length ds → Changed half 1 (farthest_in q j) ds (set ds half (entry q j j))
farthest_start q j half ds h =
    let e : half + 0 ≡ half = omega arith in
    subst (λ (x : ℕ). Changed half 1 (farthest_in q j) ds (set ds x (entry q j j))) e (changed_more changed_none (omega arith) (sym (farthest_zero q j)))

pub double_is : (i step : ℕ) → step ≡ 2 ^ i → 2 * step ≡ 2 ^ (i + 1)
double_is i step e = let f : suc i ≡ i + 1 = omega arith in ap (λ (x : ℕ). 2 * x) e ∙ sym (pow-succ' 2 i) ∙ ap (λ (x : ℕ). 2 ^ x) f

-- there is room for one sink more
pub double_fits : (i j : ℕ) → i < j → 2 * 2 ^ i ≤ 2 ^ j
double_fits i j h = let m : 2 ^ suc i ≤ 2 ^ j = pow_mono h in omega (arith, m, pow-succ' 2 i)

-- the distances of one sink more, from those of the sinks before it
pub farthest_doubled : {half step : ℕ} {a b c : List ℕ} (q : List (List ℕ)) (j i : ℕ) → i < 32 → step ≡ 2 ^ i → Changed half step (farthest_in q j) a b
    → Changed (half + step) step (λ (r : ℕ). max (held b (half + r)) (entry q i j)) b c → Changed half (2 * step) (farthest_in q j) a c
farthest_doubled {half} {step} {a} {b} {c} q j i few size done more = record {
  here = λ r l. new r l (or_lt r step);
  before = λ m l. more.before m (omega arith) ∙ done.before m l;
  after = λ m l. more.after m (omega arith) ∙ done.after m (omega arith);
}
  where
    new : (r : ℕ) → r < 2 * step → (r < step) ⊎ (step ≤ r) → held c (half + r) ≡ farthest_in q j r
    new r l (inl h) = more.before (half + r) (omega arith) ∙ done.here r h
    new r l (inr h) =
        let t : ℕ = r - step in
        let e : half + r ≡ half + step + t = omega arith in
        let f : 2 ^ i + t ≡ r = omega arith in
        ap (held c) e ∙ more.here t (omega arith) ∙ ap (λ (x : ℕ). max x (entry q i j)) (done.here t (omega arith)) ∙ sym (farthest_more q j i t few (omega arith)) ∙ ap (farthest_in q j) f

-- ---- the list of the diameters
pub widths_start : (q : List (List ℕ)) (ds : List ℕ) → 0 < length ds → Widths q 1 (set ds 0 0)
widths_start q ds h m k =
    let e : m ≡ 0 = omega arith in
    rw e (get_or-set_same ds 0 0 0 h ∙ sym (widest_zero q))

-- the subsets with sink j, from those without
pub widths_doubled : {half : ℕ} {b c : List ℕ} (q : List (List ℕ)) (j : ℕ) (a : List ℕ) → j < 32 → half ≡ 2 ^ j → Widths q half a → Changed half half (farthest_in q j) a b
    → Changed half half (λ (r : ℕ). max (held b (half + r)) (held b r)) b c → Widths q (2 * half) c
widths_doubled {half} {b} {c} q j a few size w far wide m k = go (or_lt m half)
  where
    go : (m < half) ⊎ (half ≤ m) → held c m ≡ widest q m
    go (inl h) = wide.before m h ∙ far.before m h ∙ w m h
    go (inr h) =
        let r : ℕ = m - half in
        let l : r < half = omega arith in
        let e : m ≡ half + r = omega arith in
        let f : 2 ^ j + r ≡ m = omega arith in
        let x : max (farthest_in q j r) (widest q r) ≡ max (widest q r) (farthest_in q j r) = omega arith in
        ap (held c) e ∙ wide.here r l ∙ ap₂ max (far.here r l) (far.before r l ∙ w r l) ∙ x ∙ sym (widest_more q j r few (omega arith)) ∙ ap (widest q) f
