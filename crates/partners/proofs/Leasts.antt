-- The least of some numbers, the first of them that is so small, and so the nearest of the live nodes after a row.
use mathlib.Core.Path.{◌≡◌, refl, sym, ap, ◌∙◌}
use mathlib.Core.Logic.{⊎_elim}
use mathlib.Core.List.{List}
use Prim.Native.Nat.{ℕ, ◌+◌, ◌-◌, ◌≤◌, ◌<◌}
use native.Mathlib.Nat.{min_comm, max_comm}
use Rattle.std.specs.Prelude.{min, Some, position}
use Rattle.std.specs.Option.{IsSome}
use Rattle.std.specs.List.{position_or_len}
use Rattle.std.proofs.lemmas.List.Quantifiers.{position-Some}
use Rattle.std.proofs.lemmas.List.Sums.{fails_before_first}
use native.Mathlib.Omega.{arith}
use borrow.Author.Tests.{eqb-true, eqb-false, lt-ltb}
use lib.Dec.{eqb}
use lib.ListN.{length, get_or, take, drop, length-drop}
use lib.Seq.{get_or-take, get_or-drop, length-take-le}
use Rattle.lists.proofs.Tests.{or_lt}
use Rattle.measures.specs.Boxes.{diam_of}
use Rattle.measures.specs.declared.boxes.Box.{Box}
use Rattle.partners.specs.declared.rows.Rows.{Rows}
use Rattle.partners.specs.Rows.{Row, row_at, span, Spans, Least, FirstLeast, Lowest, NearestAfter}

-- ---- the least of the first t numbers
pub record Sofar (ds : List ℕ) (d t : ℕ) : Type 0 where
  pub place : ℕ
  pub inside : place < length ds
  pub is : get_or ds place 0 ≡ d
  pub least : (s : ℕ) → s < t → d ≤ get_or ds s 0

pub sofar_begin : (ds : List ℕ) → 0 < length ds → Sofar ds (get_or ds 0 0) 0
sofar_begin ds h = record { place = 0; inside = h; is = refl; least = λ s l. absurd (omega arith) }

pub sofar_turn : {ds : List ℕ} {d t : ℕ} → Sofar ds d t → t < length ds → Sofar ds (min d (get_or ds t 0)) (t + 1)
sofar_turn {ds} {d} {t} v h = ⊎_elim lower kept (or_lt (get_or ds t 0) d)
  where
    below : (e : ℕ) → e ≤ d → e ≤ get_or ds t 0 → (s : ℕ) → s < t + 1 → e ≤ get_or ds s 0
    below e l g s i = ⊎_elim (λ (q : s < t). omega (arith, v.least s q)) (λ (q : t ≤ s). (let z : s ≡ t = omega arith in rw z g)) (or_lt s t)

    lower : get_or ds t 0 < d → Sofar ds (min d (get_or ds t 0)) (t + 1)
    lower p = (let e : min d (get_or ds t 0) ≡ get_or ds t 0 = omega arith in rw e (record { place = t; inside = h; is = refl; least = below (get_or ds t 0) (omega arith) (omega arith) }))

    kept : d ≤ get_or ds t 0 → Sofar ds (min d (get_or ds t 0)) (t + 1)
    kept p = (let e : min d (get_or ds t 0) ≡ d = omega arith in rw e (record { place = v.place; inside = v.inside; is = v.is; least = below d (omega arith) p }))

pub sofar_end : {ds : List ℕ} {d t : ℕ} → Sofar ds d t → length ds ≤ t → Least ds d
sofar_end v h = record { place = v.place; inside = v.inside; is = v.is; least = λ s l. v.least s (omega arith) }

-- the first that is the least
pub first_found : {ds : List ℕ} {d i : ℕ} → Least ds d → position (λ e. eqb e d) ds ≡ Some i → FirstLeast ds i
first_found {ds} {d} {i} v e =
    let p = position-Some (λ e. eqb e d) ds i 0 e in
    let q = eqb-true (get_or ds i 0) d p.1 in
    record {
      one = p.0;
      least = λ s l. omega (arith, v.least s l);
      first = λ s l. omega (arith, v.least s (omega arith), eqb-false (get_or ds s 0) d (p.2 s l));
    }

-- and one is
pub some_found : {ds : List ℕ} {d : ℕ} → Least ds d → IsSome (position (λ e. eqb e d) ds)
some_found {ds} {d} v =
    let h : position_or_len (λ e. eqb e d) ds < length ds =
    ⊎_elim
    (λ (p : position_or_len (λ e. eqb e d) ds < length ds). p)
    (λ (p : length ds ≤ position_or_len (λ e. eqb e d) ds). absurd (eqb-false (get_or ds v.place 0) d (fails_before_first (λ e. eqb e d) ds v.place 0 (omega (arith, v.inside))) v.is))
    (or_lt (position_or_len (λ e. eqb e d) ds) (length ds)) in
    rw (lt-ltb _ _ h)

-- ---- of the first k rows, the first whose partner is nearest
pub lowest_of : (rows : Rows) (k a : ℕ) → k ≤ length rows.far → FirstLeast (take k rows.far) a → Lowest rows k a
lowest_of rows k a h v =
    let n = length-take-le k rows.far h in
    let l : a < k = omega (arith, v.one) in
    record {
      one = l;
      least = λ s g. rw (get_or-take k rows.far a 0 l, get_or-take k rows.far s 0 g) at (v.least s (omega arith));
      first = λ s g. rw (get_or-take k rows.far a 0 l, get_or-take k rows.far s 0 (omega arith)) at (v.first s g);
    }

-- ---- the union of two rows
union_swap : (r q : Row) → span q r.box ≡ span r q.box
unfolding span diam_of
union_swap r q =
    rw (
      min_comm q.box.lu.0 r.box.lu.0,
      max_comm q.box.hu.0 r.box.hu.0,
      min_comm q.box.lv.0 r.box.lv.0,
      max_comm q.box.hv.0 r.box.hv.0,
    )

span_swap : (rows : Rows) (a t : ℕ) {e : ℕ} {b : Box} → b ≡ (row_at rows a).box → e ≡ span (row_at rows t) b → e ≡ span (row_at rows a) (row_at rows t).box
span_swap rows a t p q = q ∙ ap (λ (o : Box). span (row_at rows t) o) p ∙ union_swap (row_at rows a) (row_at rows t)

-- ---- what stands beside the rows after row a: the first of the least is the nearest of the live nodes
module _ {rows rows' : Rows} (live : List ℕ) {a : ℕ} {b : Box} (is : b ≡ (row_at rows a).box) (v : Spans (a + 1) (length live) b rows rows') where
  pub nearest_first : (s : ℕ) → length live ≤ length rows'.aside → a < length live → FirstLeast (take (length live - (a + 1)) (drop (a + 1) rows'.aside)) s → NearestAfter rows live a (record { at = get_or live (a + 1 + s) 0; far = get_or rows'.aside (a + 1 + s) 0 })
  nearest_first s h i w =
      record {
        place = a + 1 + s;
        later = omega arith;
        inside = fits;
        names = refl;
        far = span_swap rows a (a + 1 + s) is (v.here (a + 1 + s) (omega arith) fits);
        least = λ t g l. rw (sym (beside t g l), sym here) (w.least (t - (a + 1)) (omega (arith, size)));
        first = λ t g l. rw (sym (beside t g (omega (arith, fits))), sym here) (w.first (t - (a + 1)) (omega arith));
      }
    where
      size : length (take (length live - (a + 1)) (drop (a + 1) rows'.aside)) ≡ length live - (a + 1)
      size = length-take-le (length live - (a + 1)) (drop (a + 1) rows'.aside) (omega (arith, length-drop (a + 1) rows'.aside))

      fits : a + 1 + s < length live
      fits = omega (arith, w.one, size)

      at_run : (t : ℕ) → t < length live - (a + 1) → get_or (take (length live - (a + 1)) (drop (a + 1) rows'.aside)) t 0 ≡ get_or rows'.aside (a + 1 + t) 0
      at_run t g = get_or-take (length live - (a + 1)) (drop (a + 1) rows'.aside) t 0 g ∙ get_or-drop (a + 1) rows'.aside t 0

      here : get_or (take (length live - (a + 1)) (drop (a + 1) rows'.aside)) s 0 ≡ get_or rows'.aside (a + 1 + s) 0
      here = at_run s (omega (arith, w.one, size))

      beside : (t : ℕ) → a < t → t < length live → get_or (take (length live - (a + 1)) (drop (a + 1) rows'.aside)) (t - (a + 1)) 0 ≡ span (row_at rows a) (row_at rows t).box
      beside t g l = (let e : a + 1 + (t - (a + 1)) ≡ t = omega arith in at_run (t - (a + 1)) (omega arith) ∙ ap (λ (o : ℕ). get_or rows'.aside o 0) e ∙ span_swap rows a t is (v.here t (omega arith) l))
