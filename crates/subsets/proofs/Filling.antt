-- The table before the first step, and the subsets one after the other.
use native.Mathlib.Nat.{le_of_lt}
use lib.Pow.{pow_pos}
use Rattle.lists.specs.Grow.{front}
use Rattle.lists.proofs.Grow.{front_more}
use mathlib.Core.Path.{◌≡◌, refl, sym, ap, ap₂, subst, ◌∙◌}
use mathlib.Core.List.{List, [], ◌∷◌, ◌++◌, map, foldl, foldl-append, map-append, append-nil}
use Prim.Native.Nat.{ℕ, zero, suc, ◌+◌, ◌-◌, ◌^◌, ◌≤◌, ◌<◌, min}
use native.Mathlib.Omega.{arith}
use lib.ListN.{length, take, drop, get_or, set, length-set, length-append, length-map, length-drop, get_or-append, length-take, drop_of_length-le}
use lib.Seq.{take-nil, set-append_left}
use Rattle.subsets.specs.Subsets.{rising, splits}
use Rattle.subsets.specs.Table.{blank_of, blanks, cost_of, pair_up, step_of, steps, steps_of, table_after}
use Rattle.subsets.proofs.Runs.{fold_length, rising_append, rising_cons}
use Rattle.subsets.proofs.Scan.{Parts, parts_splits}

-- ---- the blank table

pub rising_length : (k i : ℕ) → length (rising k i) ≡ k
unfolding rising
rising_length zero i = refl
rising_length (suc k) i = ap suc (rising_length k (suc i))

-- the lent table t, blank below s
abbrev pub blanked : ℕ → List ℕ → List ℕ
blanked s t = map blank_of (rising s 0) ++ drop s t

pub blanked_zero : (t : List ℕ) → t ≡ blanked 0 t
unfolding rising
blanked_zero t = refl

pub blanked_more : (s : ℕ) (t : List ℕ) → s < length t → set (blanked s t) s (blank_of s) ≡ blanked (s + 1) t
unfolding rising
blanked_more s t h =
    let n : length (map blank_of (rising s 0)) ≡ s = length-map (rising s 0) blank_of ∙ rising_length s 0 in
    let e : rising (s + 1) 0 ≡ rising s 0 ++ (s ∷ []) = rising_append s 1 0 ∙ ap (λ (x : ℕ). rising s 0 ++ (x ∷ [])) (let z : 0 + s ≡ s = omega arith in z) in
    front_more (map blank_of (rising s 0)) t s (blank_of s) n h
    ∙ ap (λ (l : List ℕ). l ++ drop (s + 1) t) (sym (map-append blank_of (rising s 0) (s ∷ [])) ∙ ap (map blank_of) (sym e))

-- a table that is blank below s is as long as it was
pub blanked_length : (s : ℕ) (t : List ℕ) → s ≤ length t → length (blanked s t) ≡ length t
blanked_length s t h = length-append (map blank_of (rising s 0)) (drop s t) ∙ omega (arith, length-map (rising s 0) blank_of, rising_length s 0, length-drop s t)

pub blanks-length : (n : ℕ) → length (blanks n) ≡ 2 ^ n
unfolding blanks
blanks-length n = length-map (rising (2 ^ n) 0) blank_of ∙ rising_length (2 ^ n) 0

-- a table that is blank below 2 ^ n begins with the blank table
pub blanked_all : (n : ℕ) (t : List ℕ) → blanked (2 ^ n) t ≡ front (blanks n) t
unfolding blanks
blanked_all n t = ap (λ (k : ℕ). map blank_of (rising (2 ^ n) 0) ++ drop k t) (sym (blanks-length n))

-- all of the part of the first k numbers that is lent
pub blanked_part : (n k s : ℕ) (t : List ℕ) → k ≡ 2 ^ n → 2 ^ n ≤ length t → length (take k t) ≤ s → s ≤ length (take k t) → blanked s (take k t) ++ drop k t ≡ front (blanks n) t
unfolding blanks
blanked_part n k s t ek h l m =
    let e : s ≡ 2 ^ n = omega (arith, length-take k t) in
    ap (λ (x : List ℕ). (map blank_of (rising s 0) ++ x) ++ drop k t) (drop_of_length-le (take k t) l)
    ∙ ap (λ (x : List ℕ). x ++ drop k t) (append-nil (map blank_of (rising s 0)))
    ∙ ap₂ (λ (x y : ℕ). map blank_of (rising x 0) ++ drop y t) e (ek ∙ sym (blanks-length n))

-- ---- the subsets from s on

pub take-append : {A : Type 0} (n : ℕ) (xs ys : List A) → take n (xs ++ ys) ≡ take n xs ++ take (n - length xs) ys
take-append n [] ys = ap (λ (k : ℕ). take k ys) (let e : n ≡ n - 0 = omega arith in e) ∙ ap (λ (l : List _). l ++ take (n - 0) ys) (sym (take-nil n))
take-append zero (x ∷ xs) ys = ap (λ (k : ℕ). take k ys) (let e : 0 ≡ 0 - suc (length xs) = omega arith in e)
take-append (suc n) (x ∷ xs) ys = ap (λ (l : List _). x ∷ l) (take-append n xs ys ∙ ap (λ (k : ℕ). take n xs ++ take k ys) (let e : n - length xs ≡ suc n - suc (length xs) = omega arith in e))

pub take-map : {A B : Type 0} (f : A → B) (n : ℕ) (l : List A) → take n (map f l) ≡ map f (take n l)
take-map f zero l = refl
take-map f (suc n) [] = refl
take-map f (suc n) (x ∷ l) = ap (λ (t : List _). f x ∷ t) (take-map f n l)

-- the steps of the subsets s, .., 2 ^ n - 1
abbrev pub from : ℕ → ℕ → List (ℕ × ℕ)
from n s = steps_of (rising (2 ^ n - s) s)

pub from_cons : (n s : ℕ) → s < 2 ^ n → from n s ≡ map (pair_up s) (splits s) ++ from n (s + 1)
unfolding steps_of
from_cons n s h = ap steps_of (rising_cons (2 ^ n) s h)

pub from_none : (n s : ℕ) → 2 ^ n ≤ s → from n s ≡ []
unfolding steps_of rising
from_none n s h = ap (λ (k : ℕ). steps_of (rising k s)) (let e : 2 ^ n - s ≡ 0 = omega arith in e)

-- ---- the lent table, and its first 2 ^ n entries

-- each step of l is one of a subset below k, into two smaller ones
abbrev pub Inside : ℕ → List (ℕ × ℕ) → Type 0
Inside k [] = Unit {0}
Inside k (p ∷ l) = (p.0 < k) × (p.1 ≤ p.0) × Inside k l

inside_append : (k : ℕ) (l m : List (ℕ × ℕ)) → Inside k l → Inside k m → Inside k (l ++ m)
inside_append k [] m h g = g
inside_append k (p ∷ l) m h g = (h.0, h.1, inside_append k l m h.2 g)

pub inside_take : (k i : ℕ) (l : List (ℕ × ℕ)) → Inside k l → Inside k (take i l)
inside_take k zero l h = tt
inside_take k (suc i) [] h = tt
inside_take k (suc i) (p ∷ l) h = (h.0, h.1, inside_take k i l h.2)

inside_pairs : (k s : ℕ) (l : List ℕ) → s < k → Parts s l → Inside k (map (pair_up s) l)
inside_pairs k s [] h p = tt
inside_pairs k s (a ∷ l) h p = (h, le_of_lt p.1, inside_pairs k s l h p.3)

inside_rising : (k j i : ℕ) → 0 < i → i + j ≤ k → Inside k (steps_of (rising j i))
unfolding steps_of rising
inside_rising k zero i h l = tt
inside_rising k (suc j) i h l =
    inside_append k (map (pair_up i) (splits i)) (steps_of (rising j (suc i)))
    (inside_pairs k i (splits i) (omega arith) (parts_splits i h)) (inside_rising k j (suc i) (omega arith) (omega arith))

pub inside_steps : (n : ℕ) → Inside (2 ^ n) (steps n)
unfolding steps
inside_steps n =
    let p : 0 < 2 ^ n = pow_pos n in
    inside_rising (2 ^ n) (2 ^ n - 1) 1 (omega arith) (omega arith)

step_front : (δ : ℕ → ℕ) (b u : List ℕ) (p : ℕ × ℕ) → p.0 < length b → p.1 ≤ p.0 → step_of δ (b ++ u) p ≡ step_of δ b p ++ u
step_front δ b u p h k =
    ap₂ (λ (x : ℕ) (y : ℕ). set (b ++ u) p.0 (min x y)) (get_or-append b u 0 p.0 h)
    (ap₂ (λ (x y : ℕ). δ p.0 + x + y) (get_or-append b u 0 p.1 (omega arith)) (get_or-append b u 0 (p.0 - p.1) (omega arith)))
    ∙ set-append_left b u p.0 (min (get_or b p.0 0) (cost_of δ b p.0 p.1)) h

fold_front : (δ : ℕ → ℕ) (b u : List ℕ) (l : List (ℕ × ℕ)) → Inside (length b) l → foldl (step_of δ) (b ++ u) l ≡ foldl (step_of δ) b l ++ u
fold_front δ b u [] h = refl
fold_front δ b u (p ∷ l) h =
    ap (λ (x : List ℕ). foldl (step_of δ) x l) (step_front δ b u p h.0 h.1)
    ∙ fold_front δ (step_of δ b p) u l (subst (λ (k : ℕ). Inside k l) (sym (length-set b p.0 (min (get_or b p.0 0) (cost_of δ b p.0 p.1)))) h.2)

pub after_length : (δ : ℕ → ℕ) (n k : ℕ) → length (table_after δ n k) ≡ 2 ^ n
unfolding table_after
after_length δ n k = fold_length δ (blanks n) (take k (steps n)) ∙ blanks-length n

pub after_front : (δ : ℕ → ℕ) (n k : ℕ) (u : List ℕ) → foldl (step_of δ) (front (blanks n) u) (take k (steps n)) ≡ front (table_after δ n k) u
unfolding table_after
after_front δ n k u =
    fold_front δ (blanks n) (drop (length (blanks n)) u) (take k (steps n)) (subst (λ (x : ℕ). Inside x (take k (steps n))) (sym (blanks-length n)) (inside_take (2 ^ n) k (steps n) (inside_steps n)))
    ∙ ap (λ (x : ℕ). foldl (step_of δ) (blanks n) (take k (steps n)) ++ drop x u) (blanks-length n ∙ sym (after_length δ n k))

-- where the filling stands, that began with `budget` and the blank table t₀
abbrev pub Filling : (ℕ → ℕ) → ℕ → ℕ → List ℕ → ℕ → ℕ → List ℕ → Type 0
Filling δ n budget t₀ s left t =
    (left - length (from n s) ≡ budget - length (steps n))
    × (foldl (step_of δ) t (take left (from n s)) ≡ foldl (step_of δ) t₀ (take budget (steps n)))

module _ (δ : ℕ → ℕ) (n budget : ℕ) (t₀ : List ℕ) where
  pub fill_start : Filling δ n budget t₀ 1 budget t₀
  unfolding steps
  fill_start = (refl, refl)

  pub fill_turn : (s left left2 : ℕ) (t t2 : List ℕ) → s < 2 ^ n → Filling δ n budget t₀ s left t → left2 ≡ left - length (splits s)
      → t2 ≡ foldl (step_of δ) t (map (pair_up s) (take left (splits s))) → Filling δ n budget t₀ (s + 1) left2 t2
  fill_turn s left left2 t t2 h i el et =
      let m : length (map (pair_up s) (splits s)) ≡ length (splits s) = length-map (splits s) (pair_up s) in (
        omega (arith, i.0, ap length (from_cons n s h), length-append (map (pair_up s) (splits s)) (from n (s + 1))),
        ap₂ (λ (l : List ℕ) (k : ℕ). foldl (step_of δ) l (take k (from n (s + 1)))) et (el ∙ ap (λ (k : ℕ). left - k) (sym m))
            ∙ ap (λ (l : List (ℕ × ℕ)). foldl (step_of δ) (foldl (step_of δ) t l) (take (left - length (map (pair_up s) (splits s))) (from n (s + 1)))) (sym (take-map (pair_up s) left (splits s)))
            ∙ sym (foldl-append (step_of δ) t (take left (map (pair_up s) (splits s))) (take (left - length (map (pair_up s) (splits s))) (from n (s + 1))))
            ∙ ap (foldl (step_of δ) t) (sym (take-append left (map (pair_up s) (splits s)) (from n (s + 1))) ∙ ap (take left) (sym (from_cons n s h)))
            ∙ i.1,
      )

  pub fill_end : (s left : ℕ) (t : List ℕ) → 2 ^ n ≤ s → Filling δ n budget t₀ s left t → (budget - left ≡ min budget (length (steps n))) × (t ≡ foldl (step_of δ) t₀ (take budget (steps n)))
  fill_end s left t h i = (omega (arith, i.0, ap length (from_none n s h)), ap (foldl (step_of δ) t) (sym (take-nil left) ∙ ap (take left) (sym (from_none n s h))) ∙ i.1)

-- the blank table after the steps of a budget
pub filled_is : (δ : ℕ → ℕ) (n budget : ℕ) (u t₀ t : List ℕ) → t₀ ≡ front (blanks n) u → t ≡ foldl (step_of δ) t₀ (take budget (steps n)) → t ≡ front (table_after δ n budget) u
filled_is δ n budget u t₀ t e f = f ∙ ap (λ (l : List ℕ). foldl (step_of δ) l (take budget (steps n))) e ∙ after_front δ n budget u
