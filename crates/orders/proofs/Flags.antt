-- Flags in an array, in place of a search among the entries before a pair; and a bad pair by the three tests of the code.
use mathlib.Core.Path.{◌≡◌, refl, sym, ap, ◌∙◌}
use mathlib.Core.Bool.{Bool, true, false, ◌||◌}
use mathlib.Core.List.{List, []}
use Prim.Native.Nat.{ℕ, zero, suc, ◌+◌, ◌-◌, ◌*◌, ◌/◌, ◌≤◌, ◌<◌}
use native.Mathlib.Omega.{arith}
use native.Mathlib.Numerals.{add-one}
use borrow.Author.Tests.{eq-eqb, eqb-true, eqb-false, leb-false}
use lib.Dec.{eqb, leb}
use lib.ListN.{length, get_or, drop, set, length-set, replicate, get_or-replicate, length-replicate}
use lib.Seq.{get_or-set_same, get_or-set_other, get_or-drop}
use Rattle.std.specs.Simd.{first_chunks}
use Rattle.std.proofs.lemmas.List.{get_or-take}
use Rattle.orders.specs.Joins.{left, right, named, bad_pair}
use Rattle.lists.proofs.Any.{no_both, any_more}

-- the flag of each node tells whether the first k entries name it
abbrev pub Flags : List ℕ → ℕ → List Bool → Type 0
Flags js k fs = (x : ℕ) → x < length fs → get_or fs x false ≡ named js k x

pub flags_begin : (js : List ℕ) → Flags js 0 (replicate 1023 false)
flags_begin js x h = get_or-replicate 1023 x false false (omega (arith, length-replicate 1023 false, h))

flags_more : (js : List ℕ) (k a : ℕ) (fs : List Bool) → a ≡ get_or js k 0 → a < length fs → Flags js k fs → (x : ℕ) → x < length fs → get_or (set fs a true) x false ≡ named js (k + 1) x
flags_more js k a fs e l f x h = rw (add-one, any_more (λ j. eqb (get_or js j 0) x) k) (go (eqb a x) refl)
  where
    go : (t : Bool) → eqb a x ≡ t → get_or (set fs a true) x false ≡ (eqb (get_or js k 0) x || named js k x)
    go true q = let r = eqb-true a x q in rw (← r, ← e, get_or-set_same fs a true false l, eq-eqb a a refl)
    go false q = let r = eqb-false a x q in rw (← e, q, get_or-set_other fs a x true false (λ d. r (sym d))) (f x h)

pub flags_pair : (js : List ℕ) (i a b : ℕ) (fs : List Bool) → a ≡ left js i → b ≡ right js i → a < length fs → b < length fs → Flags js (2 * i) fs → Flags js (2 * (i + 1)) (set (set fs a true) b true)
flags_pair js i a b fs p q l m f x h =
    let s : length (set fs a true) ≡ length fs = length-set fs a true in
    let t : length (set (set fs a true) b true) ≡ length (set fs a true) = length-set (set fs a true) b true in
    let e : 2 * i + 1 + 1 ≡ 2 * (i + 1) = omega arith in
    flags_more js (2 * i + 1) b (set fs a true) q (omega arith) (λ y g. flags_more js (2 * i) a fs p l f y (omega arith)) x (omega arith)
    ∙ ap (λ (k : ℕ). named js k x) e

-- ---- a bad pair
bad_1 : (x y z p q : Bool) → (x || (y || z)) ≡ true → (x || (y || (z || (p || q)))) ≡ true
bad_1 true y z p q e = refl
bad_1 false true z p q e = refl
bad_1 false false true p q e = refl
bad_1 false false false p q e = absurd (no_both false e refl)

bad_2 : (x y z p q : Bool) → (x || (y || z)) ≡ false → (x || (y || (z || (p || q)))) ≡ (p || q)
bad_2 true y z p q e = absurd (no_both true refl e)
bad_2 false true z p q e = absurd (no_both true refl e)
bad_2 false false true p q e = absurd (no_both true refl e)
bad_2 false false false p q e = refl

or_right : (p q : Bool) → q ≡ true → (p || q) ≡ true
or_right true q e = refl
or_right false q e = e

module _ (n : ℕ) (js : List ℕ) (i a b : ℕ) (p : a ≡ left js i) (q : b ≡ right js i) where
  pub bad_unlike : (eqb a b || (leb (n + i) a || leb (n + i) b)) ≡ true → bad_pair n js i ≡ true
  bad_unlike e = rw (← p, ← q) (bad_1 (eqb a b) (leb (n + i) a) (leb (n + i) b) (named js (2 * i) a) (named js (2 * i) b) e)

  module _ (e : (eqb a b || (leb (n + i) a || leb (n + i) b)) ≡ false) where
    bad_is : bad_pair n js i ≡ (named js (2 * i) a || named js (2 * i) b)
    bad_is = rw (← p, ← q) (bad_2 (eqb a b) (leb (n + i) a) (leb (n + i) b) (named js (2 * i) a) (named js (2 * i) b) e)

    pub bad_left : named js (2 * i) a ≡ true → bad_pair n js i ≡ true
    bad_left f = bad_is ∙ rw f

    pub bad_right : named js (2 * i) b ≡ true → bad_pair n js i ≡ true
    bad_right f = bad_is ∙ or_right (named js (2 * i) a) (named js (2 * i) b) f

    pub bad_not : named js (2 * i) a ≡ false → named js (2 * i) b ≡ false → bad_pair n js i ≡ false
    bad_not f g = bad_is ∙ rw (f, g)

pub or_no : (a b : Bool) → (a || b) ≡ false → (a ≡ false) × (b ≡ false)
or_no true b e = absurd (no_both true refl e)
or_no false b e = (refl, e)

pub pair_low : (a b t : ℕ) → (eqb a b || (leb t a || leb t b)) ≡ false → (a < t) × (b < t)
pair_low a b t e =
    let x = or_no (eqb a b) _ e in
    let y = or_no (leb t a) _ x.1 in
    (leb-false t a y.0, leb-false t b y.1)

pub pair_small : (n i a b : ℕ) → n ≤ 512 → i < n - 1 → (eqb a b || (leb (n + i) a || leb (n + i) b)) ≡ false → (a < 1023) × (b < 1023)
pair_small n i a b few h e =
    let f = pair_low a b (n + i) e in
    (omega (arith, f.0, few, h), omega (arith, f.1, few, h))

-- ---- a list by its pairs
chunk_at : (n k i j : ℕ) (xs : List ℕ) → i < k → j < n → get_or (get_or (first_chunks n k xs) i []) j 0 ≡ get_or xs (n * i + j) 0
chunk_at n zero i j xs h l = absurd (omega arith)
chunk_at n (suc k) zero j xs h l = get_or-take n xs j 0 l ∙ ap (λ (m : ℕ). get_or xs m 0) (let e : j ≡ n * 0 + j = omega arith in e)
chunk_at n (suc k) (suc i) j xs h l =
    let e : n + (n * i + j) ≡ n * suc i + j = omega arith in
    chunk_at n k i j (drop n xs) (omega arith) l ∙ get_or-drop n xs (n * i + j) 0 ∙ ap (λ (m : ℕ). get_or xs m 0) e

-- pair i of the list's chunks of two
pub in_chunks : (js : List ℕ) {ps : List (List ℕ)} (i : ℕ) → ps ≡ first_chunks 2 (length js / 2) js → i < length js / 2 → (get_or (get_or ps i []) 0 0 ≡ left js i) × (get_or (get_or ps i []) 1 0 ≡ right js i)
in_chunks js i e h =
    let z : 2 * i + 0 ≡ 2 * i = omega arith in
    rw e (chunk_at 2 (length js / 2) i 0 js h (omega arith) ∙ ap (λ (m : ℕ). get_or js m 0) z, chunk_at 2 (length js / 2) i 1 js h (omega arith))
