-- Runs of subsets, one after the other, and the entries that they leave alone.
use mathlib.Core.Path.{◌≡◌, refl, sym, ap, ap₂, ◌∙◌}
use mathlib.Core.Logic.{◌≢◌}
use mathlib.Core.List.{List, [], ◌∷◌, ◌++◌, map, foldl, foldl-append, append-nil, append_assoc}
use Prim.Native.Nat.{ℕ, zero, suc, ◌+◌, ◌-◌, ◌≤◌, ◌<◌, min}
use native.Mathlib.Numerals.{add-one}
use native.Mathlib.Omega.{arith}
use lib.ListN.{length, get_or, length-set}
use lib.Seq.{get_or-set_other}
use Rattle.subsets.specs.Subsets.{rising, splits}
use Rattle.subsets.specs.Table.{cost_of, pair_up, step_of, steps_of}

pub rising_append : (a b i : ℕ) → rising (a + b) i ≡ rising a i ++ rising b (i + a)
unfolding rising
rising_append zero b i = ap₂ rising (let e : 0 + b ≡ b = omega arith in e) (let e : i ≡ i + 0 = omega arith in e)
rising_append (suc a) b i =
    ap (λ (k : ℕ). rising k i) (let e : suc a + b ≡ suc (a + b) = omega arith in e)
    ∙ ap (λ (l : List ℕ). i ∷ l) (rising_append a b (suc i) ∙ ap (λ (j : ℕ). rising a (suc i) ++ rising b j) (let e : suc i + a ≡ i + suc a = omega arith in e))

pub rising_cons : (k i : ℕ) → i < k → rising (k - i) i ≡ i ∷ rising (k - (i + 1)) (i + 1)
unfolding rising
rising_cons k i h =
    ap (λ (m : ℕ). rising m i) (let e : k - i ≡ suc (k - (i + 1)) = omega arith in e) ∙ ap (λ (j : ℕ). i ∷ rising (k - (i + 1)) j) (sym (add-one i))

pub steps-append : (l m : List ℕ) → steps_of (l ++ m) ≡ steps_of l ++ steps_of m
unfolding steps_of
steps-append [] m = refl
steps-append (s ∷ l) m = ap (λ (r : List (ℕ × ℕ)). map (pair_up s) (splits s) ++ r) (steps-append l m) ∙ sym (append_assoc (map (pair_up s) (splits s)) (steps_of l) (steps_of m))

pub fold_length : (δ : ℕ → ℕ) (b : List ℕ) (l : List (ℕ × ℕ)) → length (foldl (step_of δ) b l) ≡ length b
fold_length δ b [] = refl
fold_length δ b (p ∷ l) = fold_length δ (step_of δ b p) l ∙ length-set b p.0 (min (get_or b p.0 0) (cost_of δ b p.0 p.1))

module _ (δ : ℕ → ℕ) where
  -- a run of a subsets, and then one of b
  pub run_more : (a b c i j : ℕ) (t t2 : List ℕ) → c ≡ a + b → j ≡ i + a → t2 ≡ foldl (step_of δ) t (steps_of (rising a i))
      → foldl (step_of δ) t2 (steps_of (rising b j)) ≡ foldl (step_of δ) t (steps_of (rising c i))
  run_more a b c i j t t2 ec ej e =
      ap₂ (λ (u : List ℕ) (k : ℕ). foldl (step_of δ) u (steps_of (rising b k))) e ej
      ∙ sym (foldl-append (step_of δ) t (steps_of (rising a i)) (steps_of (rising b (i + a))))
      ∙ ap (foldl (step_of δ) t) (sym (ap (λ (k : ℕ). steps_of (rising k i)) ec ∙ ap steps_of (rising_append a b i) ∙ steps-append (rising a i) (rising b (i + a))))

  -- one subset is a run
  pub run_one : (s : ℕ) (t : List ℕ) → foldl (step_of δ) t (map (pair_up s) (splits s)) ≡ foldl (step_of δ) t (steps_of (rising 1 s))
  unfolding steps_of rising
  run_one s t = ap (foldl (step_of δ) t) (sym (append-nil (map (pair_up s) (splits s))))

  -- a run, and then one subset more
  pub run_snoc : (k i s : ℕ) (t t1 t2 : List ℕ) → s ≡ i + k → t1 ≡ foldl (step_of δ) t (steps_of (rising k i)) → t2 ≡ foldl (step_of δ) t1 (map (pair_up s) (splits s))
      → t2 ≡ foldl (step_of δ) t (steps_of (rising (k + 1) i))
  run_snoc k i s t t1 t2 es e1 e2 = e2 ∙ run_one s t1 ∙ run_more k 1 (k + 1) i s t t1 refl es e1

  -- ---- entries that are left alone

  pub pairs_other : (s : ℕ) (t : List ℕ) (l : List ℕ) (j : ℕ) → j ≢ s → get_or (foldl (step_of δ) t (map (pair_up s) l)) j 0 ≡ get_or t j 0
  pairs_other s t [] j n = refl
  pairs_other s t (a ∷ l) j n =
      pairs_other s (step_of δ t (s, a)) l j n ∙ get_or-set_other t s j (min (get_or t s 0) (cost_of δ t s a)) 0 n

  pub run_other : (k i : ℕ) (t : List ℕ) (j : ℕ) → ((m : ℕ) → i ≤ m → m < i + k → j ≢ m) → get_or (foldl (step_of δ) t (steps_of (rising k i))) j 0 ≡ get_or t j 0
  unfolding steps_of rising
  run_other zero i t j n = refl
  run_other (suc k) i t j n =
      ap (λ (u : List ℕ). get_or u j 0) (foldl-append (step_of δ) t (map (pair_up i) (splits i)) (steps_of (rising k (suc i))))
      ∙ run_other k (suc i) (foldl (step_of δ) t (map (pair_up i) (splits i))) j (λ m a b. n m (omega arith) (omega arith))
      ∙ pairs_other i t (splits i) j (n i (omega arith) (omega arith))
