-- The square of distances, as it is filled row by row.
use mathlib.Core.Path.{◌≡◌, refl, sym, ap, subst, ◌∙◌}
use mathlib.Core.Logic.{⊎_elim, ◌≢◌}
use mathlib.Core.List.{List, [], ◌∷◌}
use Prim.Native.Nat.{ℕ, ◌+◌, ◌≤◌, ◌<◌}
use native.Mathlib.Omega.{arith}
use native.Mathlib.Decide.{ℕ_discrete}
use lib.IntN.{ℤ, pos}
use lib.ListN.{length, get_or, set, replicate, get_or-replicate, length-replicate, get_or-eq_default}
use lib.Seq.{get_or-set_same, get_or-set_other}
use Rattle.lists.proofs.Tests.{or_lt}
use Rattle.lists.proofs.Zeros.{zeros}
use Rattle.zero_skew.specs.Plane.{Sinks, dist}
use Rattle.zero_skew.specs.Box.{apart}
use Rattle.measures.specs.declared.boxes.Box.{Box}
use Rattle.measures.specs.Boxes.{sink_box, hull_of, diam_of}
use Rattle.plane.specs.Sinks.{sinks_at, Placed}
use Rattle.measures.specs.Covers.{Covers}
use Rattle.measures.proofs.Fairness.{fair-diam}
use Rattle.plane.proofs.Covering.{covers_sink, covers_hull, covers_diam}
use Rattle.subsets.specs.Square.{RowOf, Square, entry}
use Rattle.subsets.proofs.Distances.{pair-diameter}

-- the diameter of the box of two places is their distance
pub pair-box : {xs ys : List ℤ} {i j : ℕ} {a b : Box} → Placed xs ys i → Placed xs ys j → a ≡ sink_box (get_or xs i (pos 0)) (get_or ys i (pos 0)) 0 → b ≡ sink_box (get_or xs j (pos 0)) (get_or ys j (pos 0)) 0
    → (diam_of (hull_of a b) ≡ dist ((sinks_at xs ys []).at i) ((sinks_at xs ys []).at j)) × (diam_of (hull_of a b) ≤ 28000000)
pair-box {xs} {ys} {i} {j} {a} {b} p q e f =
    let s = sinks_at xs ys [] in
    let c : Covers s (i ∷ []) a = subst (Covers s (i ∷ [])) (sym e) (covers_sink xs ys [] i p.near_x p.near_y (omega arith)) in
    let d : Covers s (j ∷ []) b = subst (Covers s (j ∷ [])) (sym f) (covers_sink xs ys [] j q.near_x q.near_y (omega arith)) in
    let h = covers_hull s (i ∷ []) (j ∷ []) a b (omega arith) (omega arith) c d in
    (covers_diam s (i ∷ j ∷ []) (hull_of a b) h ∙ pair-diameter s (λ k. refl) i j, fair-diam h.fair)

module _ (s : Sinks) where
  pub row_begin : (i : ℕ) → RowOf s i 0 (replicate 12 0)
  row_begin i = record { near = λ j h. absurd (omega arith); none = λ j h. zeros 12 j }

  pub row_more : (i k v : ℕ) (row : List ℕ) → RowOf s i k row → k < length row → v ≡ apart s i k → RowOf s i (k + 1) (set row k v)
  row_more i k v row r h e =
      record {
        near = λ j l. go j l (ℕ_discrete j k);
        none = λ j l. let n : j ≢ k = omega arith in get_or-set_other row k j v 0 n ∙ r.none j (omega arith);
      }
    where
      go : (j : ℕ) → j < k + 1 → Dec (j ≡ k) → get_or (set row k v) j 0 ≡ apart s i j
      go j l (yes f) = rw f (get_or-set_same row k v 0 h ∙ e)
      go j l (no f) = let n : j ≢ k = f in get_or-set_other row k j v 0 n ∙ r.near j (omega arith)

  -- the first k rows are filled, and the others hold 0
  pub record RowsTo (k : ℕ) (q : List (List ℕ)) : Type 0 where
    pub filled : (i : ℕ) → i < k → RowOf s i s.n (get_or q i [])
    pub empty : (i j : ℕ) → k ≤ i → entry q i j ≡ 0

  pub rows_begin : RowsTo 0 (replicate 12 (replicate 12 0))
  rows_begin =
      record {
        filled = λ i h. absurd (omega arith);
        empty = λ i j h. ⊎_elim
            (λ l. ap (λ (x : List ℕ). get_or x j 0) (get_or-replicate 12 i (replicate 12 0) [] l) ∙ zeros 12 j)
            (λ l. ap (λ (x : List ℕ). get_or x j 0) (get_or-eq_default (replicate 12 (replicate 12 0)) [] (let f : length (replicate {A = List ℕ} 12 (replicate 12 0)) ≤ i = omega (arith, length-replicate {A = List ℕ} 12 (replicate 12 0)) in f)))
            (or_lt i 12);
      }

  pub rows_more : (k : ℕ) (q : List (List ℕ)) (row : List ℕ) → RowsTo k q → k < length q → RowOf s k s.n row → RowsTo (k + 1) (set q k row)
  rows_more k q row r h w =
      record {
        filled = λ i l. go i l (ℕ_discrete i k);
        empty = λ i j l. let n : i ≢ k = omega arith in ap (λ (x : List ℕ). get_or x j 0) (get_or-set_other q k i row [] n) ∙ r.empty i j (omega arith);
      }
    where
      go : (i : ℕ) → i < k + 1 → Dec (i ≡ k) → RowOf s i s.n (get_or (set q k row) i [])
      go i l (yes f) = rw (f, get_or-set_same q k row [] h) w
      go i l (no f) = let n : i ≢ k = f in rw (get_or-set_other q k i row [] n) (r.filled i (omega arith))

  pub rows_end : (k : ℕ) (q : List (List ℕ)) → RowsTo k q → k ≡ s.n → Square s q
  rows_end k q r e =
      record {
        near = λ i j h l. (r.filled i (omega arith)).near j l;
        no_row = λ i j h. r.empty i j (omega arith);
        no_column = λ i j h. ⊎_elim (λ l. (r.filled i l).none j h) (λ l. r.empty i j l) (or_lt i k);
      }
