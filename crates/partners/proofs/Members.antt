-- What holds of each entry of a list, and of each entry with those after it.
use mathlib.Core.Path.{◌≡◌, refl, ap, ◌∙◌}
use mathlib.Core.Logic.{⊎_elim}
use mathlib.Core.Bool.{Bool, true, false, cond}
use mathlib.Core.List.{List, [], ◌∷◌, ◌++◌}
use Prim.Native.Nat.{ℕ, zero, suc, ◌+◌, ◌-◌, ◌≤◌, ◌<◌}
use native.Mathlib.Omega.{arith}
use borrow.Author.Tests.{ne_eqb}
use lib.ListN.{length, get_or, drop, length-drop}
use lib.Seq.{get_or-drop}
use Rattle.lists.proofs.Tests.{or_lt}
use Rattle.partners.specs.declared.pair.Pair.{Pair}
use Rattle.partners.specs.Closest.{is_of, without}
use Rattle.partners.specs.Rule.{In}
use Rattle.partners.specs.Rule.In.{hit, next}
use Rattle.partners.specs.Live.{All, Each, Below, Rising}
use Rattle.partners.specs.Live.All.{none, also}
use Rattle.partners.specs.Live.Each.{nil, cons}

module _ {A : Type 0} where
  pub all_map : {P Q : A → Type 0} {ls : List A} → ((a : A) → P a → Q a) → All P ls → All Q ls
  all_map f none = none
  all_map f (also {a} p h) = also (f a p) (all_map f h)

  pub all_zip : {P Q : A → Type 0} {ls : List A} → All P ls → All Q ls → All (λ a. P a × Q a) ls
  all_zip none none = none
  all_zip (also p h) (also q g) = also (p, q) (all_zip h g)

  pub all_join : {P : A → Type 0} {ps qs : List A} → All P ps → All P qs → All P (ps ++ qs)
  all_join none g = g
  all_join (also p h) g = also p (all_join h g)

  pub all_left : {P : A → Type 0} (xs ys : List A) → All P (xs ++ ys) → All P xs
  all_left [] ys h = none
  all_left (x ∷ xs) ys (also p h) = also p (all_left xs ys h)

  pub all_right : {P : A → Type 0} (xs : List A) {ys : List A} → All P (xs ++ ys) → All P ys
  all_right [] h = h
  all_right (x ∷ xs) (also p h) = all_right xs h

pub all_at : {P : ℕ → Type 0} {ls : List ℕ} (t : ℕ) → All P ls → t < length ls → P (get_or ls t 0)
all_at t none l = let b : ⊥ = omega arith in absurd b
all_at zero (also p h) l = p
all_at (suc t) (also p h) l = all_at t h (omega arith)

-- ---- members
pub in_all : {x : ℕ} {ls : List ℕ} {P : ℕ → Type 0} → In x ls → All P ls → P x
in_all hit (also p h) = p
in_all (next i) (also p h) = in_all i h

pub all_in : (ls : List ℕ) → All (λ b. In b ls) ls
all_in [] = none
all_in (a ∷ ls) = also hit (all_map (λ b i. next i) (all_in ls))

pub skip : {x a : ℕ} {ls : List ℕ} → In x (a ∷ ls) → (x ≡ a → ⊥) → In x ls
skip hit h = absurd (h refl)
skip (next i) h = i

-- ---- the two of a pair are left out
pub not_of : (p : Pair) (a : ℕ) → (a ≡ p.low → ⊥) → (a ≡ p.high → ⊥) → is_of p a ≡ false
not_of p a h g = rw (ne_eqb a p.low h, ne_eqb a p.high g)

pub all_kept : {P : ℕ → Type 0} {ls : List ℕ} (p : Pair) → All P ls → All (λ y. P y × (is_of p y ≡ false)) (without p ls)
all_kept p none = none
all_kept {P} p (also {a} {ls} x h) = go (is_of p a) refl (all_kept p h)
  where
    go : (t : Bool) → is_of p a ≡ t → All (λ y. P y × (is_of p y ≡ false)) (without p ls) → All (λ y. P y × (is_of p y ≡ false)) (cond t (without p ls) (a ∷ without p ls))
    go true e r = r
    go false e r = also (x, e) r

pub all_without : {P : ℕ → Type 0} {ls : List ℕ} (p : Pair) → All P ls → All P (without p ls)
all_without p h = all_map (λ y w. w.0) (all_kept p h)

-- ---- each entry and those after it
pub each_at : {Q : ℕ → List ℕ → Type 0} {ls : List ℕ} (t : ℕ) → Each Q ls → t < length ls → Q (get_or ls t 0) (drop (suc t) ls)
each_at t nil l = let b : ⊥ = omega arith in absurd b
each_at zero (cons q h) l = q
each_at (suc t) (cons q h) l = each_at t h (omega arith)

each_without : {Q R : ℕ → List ℕ → Type 0} {ls : List ℕ} (p : Pair) → ((a : ℕ) (bs : List ℕ) → Q a bs → R a (without p bs)) → Each Q ls → Each R (without p ls)
each_without p f nil = nil
each_without {Q} {R} p f (cons {a} {ls} q h) = go (is_of p a) (each_without p f h)
  where
    go : (t : Bool) → Each R (without p ls) → Each R (cond t (without p ls) (a ∷ without p ls))
    go true r = r
    go false r = cons (f a ls q) r

each_more : {Q R : ℕ → List ℕ → Type 0} {ls : List ℕ} (m : ℕ) → ((a : ℕ) (bs : List ℕ) → Q a bs → R a (bs ++ (m ∷ []))) → R m [] → Each Q ls → Each R (ls ++ (m ∷ []))
each_more m f z nil = cons z nil
each_more m f z (cons {a} {ls} q h) = cons (f a ls q) (each_more m f z h)

each_with : {Q : ℕ → List ℕ → Type 0} {P : ℕ → Type 0} {ls : List ℕ} → Each Q ls → All P ls → Each (λ a bs. Q a bs × P a) ls
each_with nil none = nil
each_with (cons q h) (also l b) = cons (q, l) (each_with h b)

-- ---- rising lists below m
pub rising_more : {ls : List ℕ} (m : ℕ) → Rising ls → Below m ls → Rising (ls ++ (m ∷ []))
rising_more m r b = each_more {Q = λ a bs. All (λ c. a < c) bs × (a < m)} m (λ a bs q. all_join q.0 (also q.1 none)) none (each_with r b)

pub rising_without : {ls : List ℕ} (p : Pair) → Rising ls → Rising (without p ls)
rising_without p r = each_without p (λ a bs q. all_without p q) r

pub rising_at : {ls : List ℕ} (s t : ℕ) → Rising ls → s < t → t < length ls → get_or ls s 0 < get_or ls t 0
rising_at {ls} s t r h l =
    let a = all_at (t - suc s) (each_at s r (omega arith)) (omega (arith, length-drop (suc s) ls)) in
    let e : suc s + (t - suc s) ≡ t = omega arith in
    let q : get_or (drop (suc s) ls) (t - suc s) 0 ≡ get_or ls t 0 = get_or-drop (suc s) ls (t - suc s) 0 ∙ ap (λ (o : ℕ). get_or ls o 0) e in
    omega (arith, q, a)

pub rising_up : {ls : List ℕ} (s t : ℕ) → Rising ls → s ≤ t → t < length ls → get_or ls s 0 ≤ get_or ls t 0
rising_up {ls} s t r h l =
    ⊎_elim (λ p. omega (arith, rising_at s t r p l)) (λ p. (let e : s ≡ t = omega arith in let f = ap (λ (o : ℕ). get_or ls o 0) e in omega arith)) (or_lt s t)
