-- What is kept beside each live node stays right where nothing changed, and where a node enters.
use mathlib.Core.Path.{◌≡◌, refl, sym, ap, ap₂, subst, ◌∙◌}
use mathlib.Core.Logic.{⊎_elim}
use mathlib.Core.List.{List, [], ◌∷◌, ◌++◌}
use Prim.Native.Nat.{ℕ, suc, ◌+◌, ◌-◌, ◌≤◌, ◌<◌}
use native.Mathlib.Omega.{arith}
use lib.Dec.{ltb, ltb→lt, nltb→le}
use lib.ListN.{length, get_or, length-append, get_or-append}
use lib.Seq.{get_or_at}
use Rattle.lists.proofs.Tests.{or_lt, choice}
use Rattle.measures.specs.declared.boxes.Box.{Box}
use Rattle.measures.specs.Boxes.{hull_of, diam_of}
use Rattle.orders.specs.Table.{box_at}
use Rattle.partners.specs.Boxes.{reach}
use Rattle.partners.specs.Live.{Below}
use Rattle.partners.specs.declared.rows.Rows.{Rows}
use Rattle.partners.specs.Rows.{Row, row_at, span, given, held, Sets, NewBox, Right, Seated, Entered}
use Rattle.partners.proofs.Members.{all_at}

-- ---- one row at a time: r is right beside the live node at s
pub record Fits (bs : List Box) (live : List ℕ) (m s : ℕ) (r : Row) : Type 0 where
  pub box : r.box ≡ box_at bs (get_or live s 0)
  pub near : (t : ℕ) → s < t → t < length live → r.far ≤ reach bs (get_or live s 0) (get_or live t 0)
  pub first : (t : ℕ) → s < t → t < length live → r.far ≡ reach bs (get_or live s 0) (get_or live t 0) → r.at ≤ get_or live t 0
  pub named : suc s < length live → (r.far ≡ reach bs (get_or live s 0) r.at) × (get_or live s 0 < r.at) × (r.at < m)

module _ {bs : List Box} {live : List ℕ} {m : ℕ} {row : ℕ → Row} where
  pub right_fits : Right bs live m row → (s : ℕ) → s < length live → Fits bs live m s (row s)
  right_fits v s h = record { box = v.box s h; near = v.near s; first = v.first s; named = v.named s }

  pub fits_right : ((s : ℕ) → s < length live → Fits bs live m s (row s)) → Right bs live m row
  fits_right f =
      record {
        box = λ s h. (f s h).box;
        near = λ s t h l. (f s (omega arith)).near t h l;
        first = λ s t h l e. (f s (omega arith)).first t h l e;
        named = λ s h. (f s (omega arith)).named h;
      }

pub fits_as : {bs : List Box} {live : List ℕ} {m s : ℕ} {q r : Row} → q ≡ r → Fits bs live m s r → Fits bs live m s q
fits_as {bs} {live} {m} {s} e h = subst (λ (o : Row). Fits bs live m s o) (sym e) h

-- ---- with the same rows, or with boxes that are the same below m
reach_as : (bs bs' : List Box) {m : ℕ} → ((k : ℕ) → k < m → box_at bs' k ≡ box_at bs k) → (x y : ℕ) → x < m → y < m → reach bs' x y ≡ reach bs x y
unfolding reach
reach_as bs bs' f x y h g = ap₂ (λ (o q : Box). diam_of (hull_of o q)) (f x h) (f y g)

pub right_same : {bs bs' : List Box} {live : List ℕ} {m : ℕ} {row : ℕ → Row} → Right bs live m row → Below m live → ((k : ℕ) → k < m → box_at bs' k ≡ box_at bs k) → Right bs' live m row
right_same {bs} {bs'} {live} {m} {row} v b f =
    record {
      box = λ t h. v.box t h ∙ sym (f (get_or live t 0) (node t h));
      near = λ s t h l. omega (arith, apart s t (omega arith) l, v.near s t h l);
      first = λ s t h l e. v.first s t h l (e ∙ apart s t (omega arith) l);
      named = λ t h. (let n = v.named t h in (n.0 ∙ sym (reach_as bs bs' f (get_or live t 0) (row t).at (node t (omega arith)) n.2), n.1, n.2));
    }
  where
    node : (t : ℕ) → t < length live → get_or live t 0 < m
    node t h = all_at t b h

    apart : (s t : ℕ) → s < length live → t < length live → reach bs' (get_or live s 0) (get_or live t 0) ≡ reach bs (get_or live s 0) (get_or live t 0)
    apart s t h l = reach_as bs bs' f (get_or live s 0) (get_or live t 0) (node s h) (node t l)

pub right_none : {bs : List Box} {m : ℕ} (row : ℕ → Row) → Right bs [] m row
right_none row = fits_right (λ s h. (let z : ⊥ = omega arith in absurd z))

-- ---- the union of a row with another
pub span_is : (bs : List Box) (r : Row) (b : Box) (x y : ℕ) → r.box ≡ box_at bs x → b ≡ box_at bs y → span r b ≡ reach bs x y
unfolding span reach
span_is bs r b x y p q = ap₂ (λ (o c : Box). diam_of (hull_of o c)) p q

-- ---- node m enters after the others
module _ (bs : List Box) (live : List ℕ) (m : ℕ) where
  old_at : (t : ℕ) → t < length live → get_or (live ++ (m ∷ [])) t 0 ≡ get_or live t 0
  old_at t h = get_or-append live (m ∷ []) 0 t h

  new_at : (t : ℕ) → t < length (live ++ (m ∷ [])) → length live ≤ t → get_or (live ++ (m ∷ [])) t 0 ≡ m
  new_at t h g = get_or_at live m [] 0 t (omega (arith, length-append live (m ∷ [])))

  -- a row that is right among the others, and no farther than m
  fits_more : {s : ℕ} {r : Row} → s < length live → r.far ≤ reach bs (get_or live s 0) m → (r.far ≡ reach bs (get_or live s 0) r.at) × (get_or live s 0 < r.at) × (r.at < m + 1) → r.box ≡ box_at bs (get_or live s 0) → ((t : ℕ) → s < t → t < length live → (r.far ≤ reach bs (get_or live s 0) (get_or live t 0)) × (r.far ≡ reach bs (get_or live s 0) (get_or live t 0) → r.at ≤ get_or live t 0)) → Fits bs (live ++ (m ∷ [])) (m + 1) s r
  fits_more {s} {r} h far named box among =
      let e = old_at s h in
      record {
        box = box ∙ ap (box_at bs) (sym e);
        near = λ t l g. ⊎_elim (λ p. rw (e, old_at t p) (among t l p).0) (λ p. rw (e, new_at t g p) far) (or_lt t (length live));
        first = λ t l g q.
            ⊎_elim (λ p. rw (old_at t p) ((among t l p).1 (rw (e, old_at t p) at q))) (λ p. rw (new_at t g p) (omega (arith, named.2))) (or_lt t (length live));
        named = λ g. rw e named;
      }

  module _ (b : Box) (is : b ≡ box_at bs m) (low : Below m live) {s : ℕ} {r : Row} (h : s < length live) (v : Fits bs live m s r) where
    span_new : span r b ≡ reach bs (get_or live s 0) m
    span_new = span_is bs r b (get_or live s 0) m v.box is

    given_fits : ((t : ℕ) → s < t → t < length live → span r b < reach bs (get_or live s 0) (get_or live t 0)) → Fits bs (live ++ (m ∷ [])) (m + 1) s (given r m (span r b))
    given_fits far =
        fits_more h (omega (arith, span_new)) (span_new, all_at s low h, omega arith) v.box
        (λ t l g. (omega (arith, far t l g), λ q. (let f = far t l g in let z : ⊥ = omega arith in absurd z)))

    kept_fits : suc s < length live → r.far ≤ span r b → Fits bs (live ++ (m ∷ [])) (m + 1) s r
    kept_fits l far =
        let n = v.named l in
        fits_more h (omega (arith, span_new)) (n.0, n.1, omega (arith, n.2)) v.box (λ t g p. (v.near t g p, v.first t g p))

    held_fits : suc s < length live → Fits bs (live ++ (m ∷ [])) (m + 1) s (held b m r)
    unfolding held
    held_fits l =
        choice (λ (q : Row). Fits bs (live ++ (m ∷ [])) (m + 1) s q) (ltb (span r b) r.far) (given r m (span r b)) r
        (λ p. given_fits (λ t g j. omega (arith, v.near t g j, ltb→lt (span r b) r.far p)))
        (λ p. kept_fits l (nltb→le (span r b) r.far p))

    last_fits : suc s ≡ length live → Fits bs (live ++ (m ∷ [])) (m + 1) s (given r m (span r b))
    last_fits e = given_fits (λ t g j. (let z : ⊥ = omega arith in absurd z))

pub right_enter : {bs : List Box} {live : List ℕ} {m : ℕ} {row row' : ℕ → Row} (b : Box) (k : ℕ) → b ≡ box_at bs m → k ≡ length live → Right bs live m row → Below m live → Entered k b m row row' → Right bs (live ++ (m ∷ [])) (m + 1) row'
right_enter {bs} {live} {m} {row} {row'} b k is e v low w = fits_right (λ s h. ⊎_elim (λ p. inside s p) (λ p. outside s h (omega arith)) (or_lt s (length live)))
  where
    inside : (s : ℕ) → s < length live → Fits bs (live ++ (m ∷ [])) (m + 1) s (row' s)
    inside s h =
        ⊎_elim
        (λ p. fits_as (w.holds s p) (held_fits bs live m b is low h (right_fits v s h) (omega arith)))
        (λ p. (let q : s + 1 ≡ k = omega arith in fits_as (w.gives s q) (last_fits bs live m b is low h (right_fits v s h) (omega arith))))
        (or_lt (s + 1) k)

    outside : (s : ℕ) → s < length (live ++ (m ∷ [])) → length live ≤ s → Fits bs (live ++ (m ∷ [])) (m + 1) s (row' s)
    outside s h l =
        let n = length-append live (m ∷ []) in
        let q : k ≡ s = omega arith in
        record {
          box = ap (λ (t : ℕ). (row' t).box) (sym q) ∙ w.puts ∙ is ∙ ap (box_at bs) (sym (new_at bs live m s h l));
          near = λ t a c. (let z : ⊥ = omega arith in absurd z);
          first = λ t a c d. (let z : ⊥ = omega arith in absurd z);
          named = λ a. (let z : ⊥ = omega arith in absurd z);
        }

-- ---- how a node comes after others: its box is put, and the last before it has no other partner
pub seated_first : {b : Box} {m k : ℕ} {rows rows' : Rows} → k ≡ 0 → NewBox k b rows rows' → Seated k b m rows rows'
seated_first e p = record { same = λ t h. (let z : ⊥ = omega arith in absurd z); gives = λ t h. (let z : ⊥ = omega arith in absurd z); puts = p.here }

pub seated_more : {b : Box} {m k w : ℕ} {rows rows1 rows2 : Rows} → 0 < k → k < 512 → NewBox k b rows rows1 → w ≡ span (row_at rows1 (k - 1)) b → Sets (k - 1) (given (row_at rows1 (k - 1)) m w) rows1 rows2 → Seated k b m rows rows2
seated_more {b} {m} {k} {w} {rows} {rows1} {rows2} h l p e g =
    record {
      same = λ t q. g.others t (omega arith) (λ z. omega arith) ∙ p.others t (omega arith) (λ z. omega arith);
      gives = λ t q.
          (let z : k - 1 ≡ t = omega arith in
          let o = p.others (k - 1) (omega arith) (λ y. omega arith) in
          rw z at (g.here ∙ ap (λ (x : ℕ). given (row_at rows1 (k - 1)) m x) e ∙ ap (λ (r : Row). given r m (span r b)) o));
      puts = ap (λ (r : Row). r.box) (g.others k l (λ z. omega arith)) ∙ p.here;
    }

-- ---- and it has entered, where they were held against it: that changed no box
held_box : (b : Box) (m : ℕ) (r : Row) → (held b m r).box ≡ r.box
unfolding held
held_box b m r = choice (λ (q : Row). q.box ≡ r.box) (ltb (span r b) r.far) (given r m (span r b)) r (λ p. refl) (λ p. refl)

held_given : (b : Box) (m : ℕ) (r : Row) → given (held b m r) m (span (held b m r) b) ≡ given r m (span r b)
unfolding span
held_given b m r = ap (λ (o : Box). record { box = o; far = diam_of (hull_of o b); at = m }) (held_box b m r)

pub entered : {b : Box} {m k : ℕ} {row : ℕ → Row} {rows rows' : Rows} → ((t : ℕ) → t < k → row_at rows t ≡ held b m (row t)) → Seated k b m rows rows' → Entered k b m row (row_at rows')
entered {b} {m} {k} {row} {rows} {rows'} f w =
    record {
      holds = λ t h. w.same t h ∙ f t (omega arith);
      gives = λ t h. w.gives t h ∙ ap (λ (r : Row). given r m (span r b)) (f t (omega arith)) ∙ held_given b m (row t);
      puts = w.puts;
    }
