-- The nodes that no earlier pair names: a join takes its two away, and its own node comes last, as the definition of joining has it.
use mathlib.Core.Path.{◌≡◌, refl, sym, ap, ◌∙◌}
use mathlib.Core.Bool.{Bool, true, false, cond, ◌||◌}
use mathlib.Core.List.{List, [], ◌∷◌, ◌++◌}
use Prim.Native.Nat.{ℕ, suc, ◌+◌, ◌*◌, ◌/◌, ◌<◌}
use native.Mathlib.Omega.{arith}
use borrow.Author.Tests.{eq-eqb, ne_eqb, eqb-true, eqb-false}
use lib.Dec.{eqb}
use lib.ListN.{get_or}
use Rattle.lists.specs.Grow.{up_to}
use Rattle.lists.proofs.Any.{any_none, any_more}
use Rattle.lists.proofs.Grow.{up_to_more}
use Rattle.orders.specs.Joins.{left, right, named}
use Rattle.orders.proofs.Accepted.{in_pair}
use Rattle.partners.specs.declared.pair.Pair.{Pair}
use Rattle.partners.specs.Closest.{pair, is_of, without, after}
use Rattle.partners.specs.Rule.{unnamed, live_at}
use Rattle.partners.specs.Live.{All}
use Rattle.partners.specs.Live.All.{none, also}

-- pair i
abbrev pub pair_at : List ℕ → ℕ → Pair
pair_at js i = pair (left js i) (right js i)

-- each of the first m pairs names two nodes below the one that it makes
abbrev pub Lower : ℕ → List ℕ → ℕ → Type 0
Lower n js m = (i : ℕ) → i < m → (left js i < n + i) × (right js i < n + i)

unnamed_all : (js ls : List ℕ) → unnamed js 0 ls ≡ ls
unfolding unnamed
unnamed_all js [] = refl
unnamed_all js (x ∷ ls) = ap (λ (l : List ℕ). x ∷ l) (unnamed_all js ls)

pub live_begin : (n : ℕ) (js : List ℕ) → live_at n js 0 ≡ up_to n
live_begin n js = let e : n + 0 ≡ n = omega arith in rw e (unnamed_all js (up_to n))

eqb_turn : (a b : ℕ) → eqb a b ≡ eqb b a
eqb_turn a b = go (eqb b a) refl
  where
    go : (t : Bool) → eqb b a ≡ t → eqb a b ≡ t
    go true e = eq-eqb a b (sym (eqb-true b a e))
    go false e = ne_eqb a b (λ q. eqb-false b a e (sym q))

or_swap : (a b c : Bool) → (a || (b || c)) ≡ ((b || a) || c)
or_swap true true c = refl
or_swap true false c = refl
or_swap false true c = refl
or_swap false false c = refl

-- pair i and those before it name what pair i names, and what those before it do
named_turn : (js : List ℕ) (i x : ℕ) → named js (2 * (i + 1)) x ≡ (is_of (pair_at js i) x || named js (2 * i) x)
named_turn js i x =
    let e : 2 * (i + 1) ≡ suc (suc (2 * i)) = omega arith in
    let f : suc (2 * i) ≡ 2 * i + 1 = omega arith in
    let p : ℕ → Bool = λ j. eqb (get_or js j 0) x in
    ap (λ (k : ℕ). named js k x) e
    ∙ any_more p (suc (2 * i))
    ∙ rw (any_more p (2 * i), f, eqb_turn (right js i) x, eqb_turn (left js i) x)
    (or_swap (eqb x (right js i)) (eqb x (left js i)) (named js (2 * i) x))

unnamed_turn : (js : List ℕ) (i : ℕ) (ls : List ℕ) → unnamed js (2 * (i + 1)) ls ≡ without (pair_at js i) (unnamed js (2 * i) ls)
unfolding unnamed
unnamed_turn js i [] = refl
unnamed_turn js i (x ∷ ls) = go (named js (2 * i) x) refl (is_of (pair_at js i) x) refl (unnamed_turn js i ls)
  where
    go : (t : Bool) → named js (2 * i) x ≡ t → (w : Bool) → is_of (pair_at js i) x ≡ w → unnamed js (2 * (i + 1)) ls ≡ without (pair_at js i) (unnamed js (2 * i) ls)
        → unnamed js (2 * (i + 1)) (x ∷ ls) ≡ without (pair_at js i) (unnamed js (2 * i) (x ∷ ls))
    go true e true f r = rw (named_turn js i x, f, e) r
    go true e false f r = rw (named_turn js i x, f, e) r
    go false e true f r = rw (named_turn js i x, f, e, f) r
    go false e false f r = rw (named_turn js i x, f, e, f) (ap (λ (l : List ℕ). x ∷ l) r)

pub all_unnamed : {P : ℕ → Type 0} {ls : List ℕ} (js : List ℕ) (k : ℕ) → All P ls → All P (unnamed js k ls)
unfolding unnamed
all_unnamed js k none = none
all_unnamed {P} js k (also {a} {ls} x h) = go (named js k a) (all_unnamed js k h)
  where
    go : (t : Bool) → All P (unnamed js k ls) → All P (cond t (unnamed js k ls) (a ∷ unnamed js k ls))
    go true r = r
    go false r = also x r

unnamed_join : (js : List ℕ) (k : ℕ) (xs ys : List ℕ) → unnamed js k (xs ++ ys) ≡ unnamed js k xs ++ unnamed js k ys
unfolding unnamed
unnamed_join js k [] ys = refl
unnamed_join js k (x ∷ xs) ys = go (named js k x) (unnamed_join js k xs ys)
  where
    go : (t : Bool) → unnamed js k (xs ++ ys) ≡ unnamed js k xs ++ unnamed js k ys
        → cond t (unnamed js k (xs ++ ys)) (x ∷ unnamed js k (xs ++ ys)) ≡ cond t (unnamed js k xs) (x ∷ unnamed js k xs) ++ unnamed js k ys
    go true r = r
    go false r = ap (λ (l : List ℕ). x ∷ l) r

-- the node that pair i makes is named by none before it, nor by pair i
not_yet : (n : ℕ) (js : List ℕ) (i : ℕ) → Lower n js (i + 1) → named js (2 * (i + 1)) (n + i) ≡ false
not_yet n js i low =
    any_none (λ j. eqb (get_or js j 0) (n + i)) (2 * (i + 1))
    (λ j h. in_pair (λ m. eqb (get_or js m 0) (n + i) ≡ false) j
    (λ q. ne_eqb (get_or js j 0) (n + i) (λ e. omega (arith, ap (λ (m : ℕ). get_or js m 0) q, (low (j / 2) (omega arith)).0)))
    (λ q. ne_eqb (get_or js j 0) (n + i) (λ e. omega (arith, ap (λ (m : ℕ). get_or js m 0) q, (low (j / 2) (omega arith)).1))))

pub live_turn : (n : ℕ) (js : List ℕ) (i : ℕ) → Lower n js (i + 1) → live_at n js (i + 1) ≡ after (pair_at js i) (n + i) (live_at n js i)
unfolding unnamed
live_turn n js i low =
    let e : n + (i + 1) ≡ n + i + 1 = omega arith in
    ap (λ (l : List ℕ). unnamed js (2 * (i + 1)) l) (ap up_to e ∙ up_to_more (n + i))
    ∙ unnamed_join js (2 * (i + 1)) (up_to (n + i)) ((n + i) ∷ [])
    ∙ rw (unnamed_turn js i (up_to (n + i)), not_yet n js i low)
