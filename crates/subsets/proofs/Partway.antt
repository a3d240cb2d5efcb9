-- The steps of a subset among the first k steps.
use Rattle.lists.proofs.Tests.{or_le}
use lib.Seq.{take_all}
use mathlib.Core.Path.{◌≡◌, refl, sym, ap, ◌∙◌}
use mathlib.Core.Logic.{◌≢◌, ◌⊎◌, inl, inr, ⊎_elim}
use mathlib.Core.List.{List, [], ◌∷◌, ◌++◌, map, foldl, foldl-append}
use Prim.Native.Nat.{ℕ, zero, suc, ◌+◌, ◌-◌, ◌^◌, ◌≤◌, ◌<◌, min}
use native.Mathlib.Omega.{arith}
use lib.ListN.{length, take, get_or}
use lib.Seq.{get_or-set_other}
use Rattle.subsets.specs.Entries.{examined}
use Rattle.subsets.specs.Subsets.{rising, splits}
use Rattle.subsets.specs.Table.{blanks, cost_of, pair_up, step_of, steps, steps_of, table_after}
use Rattle.subsets.proofs.Filling.{take-append, take-map}
use Rattle.subsets.proofs.Finished.{done_to}
use Rattle.subsets.proofs.Runs.{rising_append, steps-append}

-- no step of l is one of the subset j
abbrev Avoids : ℕ → List (ℕ × ℕ) → Type 0
Avoids j [] = Unit {0}
Avoids j (p ∷ l) = (j ≢ p.0) × Avoids j l

avoids_append : (j : ℕ) (l m : List (ℕ × ℕ)) → Avoids j l → Avoids j m → Avoids j (l ++ m)
avoids_append j [] m h k = k
avoids_append j (p ∷ l) m h k = (h.0, avoids_append j l m h.1 k)

avoids_take : (j k : ℕ) (l : List (ℕ × ℕ)) → Avoids j l → Avoids j (take k l)
avoids_take j zero l h = tt
avoids_take j (suc k) [] h = tt
avoids_take j (suc k) (p ∷ l) h = (h.0, avoids_take j k l h.1)

avoids_pairs : (j s : ℕ) (l : List ℕ) → j ≢ s → Avoids j (map (pair_up s) l)
avoids_pairs j s [] h = tt
avoids_pairs j s (a ∷ l) h = (h, avoids_pairs j s l h)

avoids_steps : (j k i : ℕ) → (j < i) ⊎ (i + k ≤ j) → Avoids j (steps_of (rising k i))
unfolding steps_of rising
avoids_steps j zero i h = tt
avoids_steps j (suc k) i (inl h) =
    let n : j ≢ i = omega arith in
    avoids_append j (map (pair_up i) (splits i)) (steps_of (rising k (suc i))) (avoids_pairs j i (splits i) n) (avoids_steps j k (suc i) (inl (omega arith)))
avoids_steps j (suc k) i (inr h) =
    let n : j ≢ i = omega arith in
    avoids_append j (map (pair_up i) (splits i)) (steps_of (rising k (suc i))) (avoids_pairs j i (splits i) n) (avoids_steps j k (suc i) (inr (omega arith)))

keeps : (δ : ℕ → ℕ) (j : ℕ) (l : List (ℕ × ℕ)) (t : List ℕ) → Avoids j l → get_or (foldl (step_of δ) t l) j 0 ≡ get_or t j 0
keeps δ j [] t h = refl
keeps δ j (p ∷ l) t h = keeps δ j l (step_of δ t p) h.1 ∙ get_or-set_other t p.0 j (min (get_or t p.0 0) (cost_of δ t p.0 p.1)) 0 h.0

-- the steps of the subsets before s, of s, and after it
abbrev before : ℕ → List (ℕ × ℕ)
before s = steps_of (rising (s - 1) 1)

abbrev after : ℕ → ℕ → List (ℕ × ℕ)
after n s = steps_of (rising (2 ^ n - 1 - s) (1 + s))

steps_at : (n s : ℕ) → 0 < s → s < 2 ^ n → steps n ≡ before s ++ (map (pair_up s) (splits s) ++ after n s)
unfolding steps steps_of rising
steps_at n s h l =
    ap (λ (k : ℕ). steps_of (rising k 1)) (let e : 2 ^ n - 1 ≡ (s - 1) + suc (2 ^ n - 1 - s) = omega arith in e)
    ∙ ap steps_of (rising_append (s - 1) (suc (2 ^ n - 1 - s)) 1)
    ∙ steps-append (rising (s - 1) 1) (rising (suc (2 ^ n - 1 - s)) (1 + (s - 1)))
    ∙ ap (λ (x : ℕ). before s ++ steps_of (rising (suc (2 ^ n - 1 - s)) x)) (let e : 1 + (s - 1) ≡ s = omega arith in e)
    ∙ ap (λ (x : ℕ). before s ++ (map (pair_up s) (splits s) ++ steps_of (rising (2 ^ n - 1 - s) x))) (let e : suc s ≡ 1 + s = omega arith in e)

module _ (δ : ℕ → ℕ) (n k s : ℕ) (pos : 0 < s) (low : s < 2 ^ n) where
  -- of the first k steps: those before s, those of s, those after it
  X : List (ℕ × ℕ)
  X = take k (before s)

  Y : List (ℕ × ℕ)
  Y = map (pair_up s) (examined k s)

  Z : List (ℕ × ℕ)
  Z = take (k - length (before s) - length (map (pair_up s) (splits s))) (after n s)

  cut : take k (steps n) ≡ X ++ (Y ++ Z)
  unfolding X Y Z examined
  cut =
      ap (take k) (steps_at n s pos low)
      ∙ take-append k (before s) (map (pair_up s) (splits s) ++ after n s)
      ∙ ap (λ (l : List (ℕ × ℕ)). take k (before s) ++ l)
      (take-append (k - length (before s)) (map (pair_up s) (splits s)) (after n s)
      ∙ ap (λ (l : List (ℕ × ℕ)). l ++ take (k - length (before s) - length (map (pair_up s) (splits s))) (after n s)) (take-map (pair_up s) (k - length (before s)) (splits s)))

  off_before : Avoids s (before s)
  off_before = avoids_steps s (s - 1) 1 (inr (omega arith))

  -- steps after s do not touch its entry
  cut_after : get_or (table_after δ n k) s 0 ≡ get_or (foldl (step_of δ) (foldl (step_of δ) (blanks n) X) Y) s 0
  unfolding table_after Z
  cut_after =
      ap (λ (l : List (ℕ × ℕ)). get_or (foldl (step_of δ) (blanks n) l) s 0) cut
      ∙ ap (λ (t : List ℕ). get_or t s 0) (foldl-append (step_of δ) (blanks n) X (Y ++ Z) ∙ foldl-append (step_of δ) (foldl (step_of δ) (blanks n) X) Y Z)
      ∙ keeps δ s Z (foldl (step_of δ) (foldl (step_of δ) (blanks n) X) Y)
      (avoids_take s (k - length (before s) - length (map (pair_up s) (splits s))) (after n s) (avoids_steps s (2 ^ n - 1 - s) (1 + s) (inl (omega arith))))

  -- the entry of s after k steps: its examined splits on the table in which all smaller subsets are finished
  pub entry_cut : get_or (table_after δ n k) s 0 ≡ get_or (foldl (step_of δ) (done_to δ n (s - 1)) (map (pair_up s) (examined k s))) s 0
  unfolding done_to X Y examined
  entry_cut = ⊎_elim late early (or_le (length (before s)) k)
    where
      late : length (before s) ≤ k → get_or (table_after δ n k) s 0 ≡ get_or (foldl (step_of δ) (done_to δ n (s - 1)) (map (pair_up s) (examined k s))) s 0
      late h = cut_after ∙ ap (λ (l : List (ℕ × ℕ)). get_or (foldl (step_of δ) (foldl (step_of δ) (blanks n) l) (map (pair_up s) (examined k s))) s 0) (take_all k (before s) h)

      early : k ≤ length (before s) → get_or (table_after δ n k) s 0 ≡ get_or (foldl (step_of δ) (done_to δ n (s - 1)) (map (pair_up s) (examined k s))) s 0
      early h =
          let none : map (pair_up s) (take (k - length (before s)) (splits s)) ≡ [] = ap (λ (x : ℕ). map (pair_up s) (take x (splits s))) (let e : k - length (before s) ≡ 0 = omega arith in e) in
          cut_after
          ∙ ap (λ (l : List (ℕ × ℕ)). get_or (foldl (step_of δ) (foldl (step_of δ) (blanks n) (take k (before s))) l) s 0) none
          ∙ keeps δ s (take k (before s)) (blanks n) (avoids_take s k (before s) off_before)
          ∙ sym (keeps δ s (before s) (blanks n) off_before)
          ∙ ap (λ (l : List (ℕ × ℕ)). get_or (foldl (step_of δ) (foldl (step_of δ) (blanks n) (before s)) l) s 0) (sym none)

  pub done_blank : get_or (done_to δ n (s - 1)) s 0 ≡ get_or (blanks n) s 0
  unfolding done_to
  done_blank = keeps δ s (before s) (blanks n) off_before

-- the empty set is never touched
pub empty_stands : (δ : ℕ → ℕ) (n k : ℕ) → get_or (table_after δ n k) 0 0 ≡ get_or (blanks n) 0 0
unfolding table_after steps
empty_stands δ n k = keeps δ 0 (take k (steps n)) (blanks n) (avoids_take 0 k (steps n) (avoids_steps 0 (2 ^ n - 1) 1 (inl (omega arith))))
