-- The finished table: each entry is the least that the splits of its subset come to, by the table itself.
use mathlib.Core.Path.{◌≡◌, refl, sym, ap, ap₂, subst, ◌∙◌}
use mathlib.Core.Logic.{◌≢◌, ⊎_elim}
use mathlib.Core.List.{List, [], ◌∷◌, map, foldl, foldl-append}
use Prim.Native.Nat.{ℕ, zero, suc, ◌+◌, ◌-◌, ◌^◌, ◌≤◌, ◌<◌, min}
use native.Mathlib.Decide.{ℕ_discrete}
use native.Mathlib.Omega.{arith}
use lib.ListN.{length, get_or, set, length-set, get_or-map}
use lib.Seq.{get_or-set_same, get_or-set_other, take_all}
use lib.Count.{ones}
use lib.Pow.{pow_pos}
use Rattle.lists.proofs.Tests.{or_lt}
use Rattle.subsets.specs.Best.{step_count}
use Rattle.subsets.specs.Subsets.{rising, splits}
use Rattle.subsets.specs.Table.{better_at, blank_of, blanks, pair_up, step_of, steps, steps_of, table_after}
use Rattle.subsets.proofs.Counting.{steps_count}
use Rattle.subsets.proofs.Filling.{blanks-length}
use Rattle.subsets.proofs.Runs.{fold_length, run_other}
use Rattle.subsets.proofs.Scan.{Parts, fold_set, parts_splits}

-- only the entries below s matter
better_ext : (d : ℕ) (t u : List ℕ) (s v : ℕ) (l : List ℕ) → Parts s l → ((j : ℕ) → j < s → get_or t j 0 ≡ get_or u j 0) → foldl (better_at d t s) v l ≡ foldl (better_at d u s) v l
better_ext d t u s v [] p e = refl
better_ext d t u s v (a ∷ l) p e =
    ap (λ (x : ℕ). foldl (better_at d t s) x l) (ap₂ (λ (x y : ℕ). min v (d + x + y)) (e a p.1) (e (s - a) (omega (arith, p.0, p.1))))
    ∙ better_ext d t u s (better_at d u s v a) l p.3 e

module _ (δ : ℕ → ℕ) where
  -- the subsets i, .., i + k - 1
  abbrev run : ℕ → ℕ → List ℕ → List ℕ
  run k i t = foldl (step_of δ) t (steps_of (rising k i))

  -- what i comes to
  abbrev value : ℕ → List ℕ → ℕ
  value i t = foldl (better_at (δ i) t i) (get_or t i 0) (splits i)

  run_suc : (k i : ℕ) (t : List ℕ) → 0 < i → i < length t → run (suc k) i t ≡ run k (suc i) (set t i (value i t))
  unfolding steps_of rising
  run_suc k i t h l =
      foldl-append (step_of δ) t (map (pair_up i) (splits i)) (steps_of (rising k (suc i)))
      ∙ ap (λ (x : List ℕ). foldl (step_of δ) x (steps_of (rising k (suc i)))) (fold_set δ t i (splits i) l (parts_splits i h))

  run_value : (k i : ℕ) (t : List ℕ) (s : ℕ) → 0 < i → i + k ≤ length t → i ≤ s → s < i + k
      → get_or (run k i t) s 0 ≡ foldl (better_at (δ s) (run k i t) s) (get_or t s 0) (splits s)
  run_value zero i t s h l a b = absurd (omega arith)
  run_value (suc k) i t s h l a b = go (λ u. run_value k (suc i) u s) (ℕ_discrete s i)
    where
      t1 : List ℕ
      t1 = set t i (value i t)

      e1 : run (suc k) i t ≡ run k (suc i) t1
      e1 = run_suc k i t h (omega arith)

      n1 : length t1 ≡ length t
      n1 = length-set t i (value i t)

      go : ((u : List ℕ) → 0 < suc i → suc i + k ≤ length u → suc i ≤ s → s < suc i + k → get_or (run k (suc i) u) s 0 ≡ foldl (better_at (δ s) (run k (suc i) u) s) (get_or u s 0) (splits s))
          → Dec (s ≡ i) → get_or (run (suc k) i t) s 0 ≡ foldl (better_at (δ s) (run (suc k) i t) s) (get_or t s 0) (splits s)
      go ih (yes e) =
          subst (λ (x : ℕ). get_or (run (suc k) i t) x 0 ≡ foldl (better_at (δ x) (run (suc k) i t) x) (get_or t x 0) (splits x)) (sym e)
          (ap (λ (x : List ℕ). get_or x i 0) e1
          ∙ run_other δ k (suc i) t1 i (λ m a b. omega arith)
          ∙ get_or-set_same t i (value i t) 0 (omega arith)
          ∙ better_ext (δ i) t (run (suc k) i t) i (get_or t i 0) (splits i) (parts_splits i h) (λ j jl. sym (run_other δ (suc k) i t j (λ m a b. omega arith))))
      go ih (no e) =
          let n2 : s ≢ i = e in
          ap (λ (x : List ℕ). get_or x s 0) e1
          ∙ ih t1 (omega arith) (omega (arith, n1)) (omega arith) (omega arith)
          ∙ ap₂ (λ (x : List ℕ) (v : ℕ). foldl (better_at (δ s) x s) v (splits s)) (sym e1) (get_or-set_other t i s (value i t) 0 n2)

rising_get : (k i j : ℕ) → j < k → get_or (rising k i) j 0 ≡ i + j
unfolding rising
rising_get zero i j h = absurd (omega arith)
rising_get (suc k) i zero h = omega arith
rising_get (suc k) i (suc j) h = rising_get k (suc i) j (omega arith) ∙ omega arith

pub blank_get : (n s : ℕ) → s < 2 ^ n → get_or (blanks n) s 0 ≡ blank_of s
unfolding ones blanks
blank_get n s h = get_or-map blank_of (rising (2 ^ n) 0) s 0 ∙ ap blank_of (rising_get (2 ^ n) 0 s h ∙ (let e : 0 + s ≡ s = omega arith in e))

-- ---- a table whose subsets below b are finished

-- their entries, by the table itself
pub record Finished (δ : ℕ → ℕ) (b : ℕ) (t : List ℕ) : Type 0 where
  pub entry : (s : ℕ) → 0 < s → s < b → get_or t s 0 ≡ foldl (better_at (δ s) t s) (blank_of s) (splits s)

-- the table of n sinks once the steps of the subsets 1, .., k are taken
unfoldable pub done_to : (ℕ → ℕ) → ℕ → ℕ → List ℕ
done_to δ n k = foldl (step_of δ) (blanks n) (steps_of (rising k 1))

pub finished_to : (δ : ℕ → ℕ) (n k : ℕ) → k < 2 ^ n → Finished δ (suc k) (done_to δ n k)
unfolding done_to
finished_to δ n k l =
    let e : length (blanks n) ≡ 2 ^ n = blanks-length n in
    record {
      entry = λ s hs hl.
          run_value δ k 1 (blanks n) s (omega arith) (omega arith) hs (omega arith)
          ∙ ap (λ (v : ℕ). foldl (better_at (δ s) (run δ k 1 (blanks n)) s) v (splits s)) (blank_get n s (omega arith));
    }

pub done_length : (δ : ℕ → ℕ) (n k : ℕ) → length (done_to δ n k) ≡ 2 ^ n
unfolding done_to
done_length δ n k = fold_length δ (blanks n) (steps_of (rising k 1)) ∙ blanks-length n

-- from F(n) steps on it is the finished table
pub done_all : (δ : ℕ → ℕ) (n budget : ℕ) → step_count n ≤ budget → table_after δ n budget ≡ done_to δ n (2 ^ n - 1)
unfolding table_after steps done_to
done_all δ n budget b = ap (foldl (step_of δ) (blanks n)) (take_all budget (steps n) (omega (arith, steps_count n)))

-- so the steps that there are make the table of any budget
pub after_steps : (δ : ℕ → ℕ) (n budget : ℕ) → table_after δ n budget ≡ table_after δ n (min budget (step_count n))
after_steps δ n budget =
    ⊎_elim
    (λ h. ap (table_after δ n) (let e : budget ≡ min budget (step_count n) = omega arith in e))
    (λ h. done_all δ n budget h ∙ sym (done_all δ n (min budget (step_count n)) (omega arith)))
    (or_lt budget (step_count n))

pub finished : (δ : ℕ → ℕ) (n budget : ℕ) → step_count n ≤ budget → Finished δ (2 ^ n) (table_after δ n budget)
finished δ n budget b =
    let p : 0 < 2 ^ n = pow_pos n in
    let e : suc (2 ^ n - 1) ≡ 2 ^ n = omega arith in
    rw (done_all δ n budget b) (rw e at (finished_to δ n (2 ^ n - 1) (omega arith)))
