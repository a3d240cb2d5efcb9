-- The pass up: the arrays of the sinks, then of one join more; and what all joins come to.
use mathlib.Core.Path.{◌≡◌, refl, sym, ap, subst, ◌∙◌}
use mathlib.Core.Bool.{Bool, true, false}
use mathlib.Core.List.{List, [], ◌∷◌, ◌++◌}
use Prim.Native.Nat.{ℕ, zero, suc, ◌+◌, ◌-◌, ◌*◌, ◌≤◌, ◌<◌}
use native.Mathlib.Omega.{arith}
use borrow.Author.Tests.{eqb-true, eqb-false, ltb-true, ltb-false}
use lib.Dec.{eqb, ltb}
use lib.IntN.{ℤ}
use lib.ListN.{length, get_or, set, length-set}
use lib.Seq.{get_or-set_same, get_or-set_other}
use Rattle.lists.specs.Grow.{sum_to}
use Rattle.lists.proofs.Grow.{each_more, sum_same, sum_more}
use Rattle.zero_skew.specs.Plane.{Sinks}
use Rattle.measures.specs.Boxes.{blank, hull_of, diam_of, Fair}
use Rattle.plane.specs.Sinks.{sinks_at}
use Rattle.measures.specs.Covers.{Covers}
use Rattle.measures.proofs.Fairness.{fair-diam, fair-hull}
use Rattle.plane.proofs.Covering.{covers_hull, own_diam}
use Rattle.measures.specs.declared.boxes.Box.{Box}
use Rattle.orders.specs.Joins.{left, right}
use Rattle.orders.specs.Sound.{Ordered, Sound}
use Rattle.orders.specs.Nodes.{node, below}
use Rattle.orders.specs.Table.{box_at, Sinked}
use Rattle.orders.specs.Arrays.{Boxes, NodeRoom, PutsOwn, Up, PutsJoin, PutsJoins, AllNodes}
use Rattle.orders.proofs.Boxing.{put_here, put_before}
use Rattle.orders.proofs.Parents.{parents_more, parents_done}
use Rattle.orders.proofs.Orders.{sinks_some, below_sink, below_join}

-- ---- sinks
pub up_begin : {xs ys : List ℤ} {delays js : List ℕ} {bs : List Box} {ds ps : List ℕ} {sum : ℕ} → length xs ≡ length delays → NodeRoom (length xs) bs ds ps → PutsOwn delays (length delays) sum ds → Sinked xs ys delays (length xs) bs → Up (length xs) js 0 bs ds ps
up_begin {xs} {ys} {delays} {js} {bs} {ds} {ps} {sum} e room own w =
    record {
      room = room;
      fair = λ k h. (w.covers k (omega arith)).fair;
      sized = λ k h. own.own k (omega arith) ∙ sym (own_diam (sinks_at xs ys delays) k (box_at bs k) (w.covers k (omega arith)));
      hulls = λ j h. absurd (omega arith);
      named = λ j h. absurd (omega arith);
    }

-- ---- one join more
hull_same : {a b c d : Box} → a ≡ c → b ≡ d → hull_of a b ≡ hull_of c d
hull_same {a} {b} {c} {d} p q = ap (λ (x : Box). hull_of x b) p ∙ ap (hull_of c) q

module _ {n : ℕ} {js : List ℕ} (o : Ordered n js) {i : ℕ} (h : i < n - 1) {bs : List Box} {ds ps : List ℕ} (w : Up n js i bs ds ps) where
  abbrev new : Box
  new = hull_of (box_at bs (left js i)) (box_at bs (right js i))

  new_fair : Fair new
  new_fair = fair-hull (w.fair (left js i) (o.valid.low_left i h)) (w.fair (right js i) (o.valid.low_right i h))

  module _ {bs' : List Box} (p : bs' ≡ set bs (n + i) new) where
    here : box_at bs' (n + i) ≡ new
    here = put_here bs (n + i) new p (omega (arith, w.room.boxes))

    hulls_more : (j : ℕ) → j < i + 1 → box_at bs' (n + j) ≡ hull_of (box_at bs' (left js j)) (box_at bs' (right js j))
    hulls_more j l = go (eqb j i) refl
      where
        kept : (m : ℕ) → m ≤ i → m < n - 1 → hull_of (box_at bs (left js m)) (box_at bs (right js m)) ≡ hull_of (box_at bs' (left js m)) (box_at bs' (right js m))
        kept m a b =
            sym (hull_same
            (put_before bs (n + i) new p (left js m) (omega (arith, o.valid.low_left m b)))
            (put_before bs (n + i) new p (right js m) (omega (arith, o.valid.low_right m b))))

        go : (t : Bool) → eqb j i ≡ t → box_at bs' (n + j) ≡ hull_of (box_at bs' (left js j)) (box_at bs' (right js j))
        go true e = let q = eqb-true j i e in rw q (here ∙ kept i (omega arith) h)
        go false e =
            let q : j < i = omega (arith, eqb-false j i e) in
            put_before bs (n + i) new p (n + j) (omega arith) ∙ w.hulls j q ∙ kept j (omega arith) (omega arith)

    up_more : (d : ℕ) {ps' : List ℕ} → d ≡ diam_of new → ps' ≡ set (set ps (left js i) (n + i)) (right js i) (n + i) → Up n js (i + 1) bs' (set ds (n + i) d) ps'
    up_more d {ps'} e t =
        let r = w.room in
        let lo = o.valid.low_left i h in
        let hi = o.valid.low_right i h in
        record {
          room = record { boxes = rw p (simp length-set r.boxes); diameters = simp length-set r.diameters; parents = rw t (simp length-set r.parents) };
          fair = λ k g. rw p (each_more (λ (m : ℕ) (b : Box). Fair b) bs (n + i) new blank (omega (arith, r.boxes)) new_fair w.fair k (omega arith));
          sized = λ k g. each_more (λ (m : ℕ) (x : ℕ). x ≡ diam_of (box_at bs' m)) ds (n + i) d 0 (omega (arith, r.diameters)) (e ∙ ap diam_of (sym here)) (λ m u. w.sized m u ∙ ap diam_of (sym (put_before bs (n + i) new p m u))) k (omega arith);
          hulls = hulls_more;
          named = λ j g.
              rw t
              (parents_more n js o (set ps (left js i) (n + i)) (2 * i + 1) (right js i) (n + i) (omega arith) refl (simp length-set (omega (arith, r.parents))) (omega arith)
              (parents_more n js o ps (2 * i) (left js i) (n + i) (omega arith) refl (omega (arith, r.parents)) (omega arith) w.named)
              j (omega arith));
        }

  is_new : {a b : ℕ} {c : Box} → a ≡ left js i → b ≡ right js i → c ≡ hull_of (box_at bs a) (box_at bs b) → c ≡ new
  is_new {a} {b} {c} p q r = r ∙ hull_same (ap (box_at bs) p) (ap (box_at bs) q)

  pub puts_join : {a b : ℕ} {c : Box} {d : ℕ} → a ≡ left js i → b ≡ right js i → c ≡ hull_of (box_at bs a) (box_at bs b) → d ≡ diam_of c
      → PutsJoin n js i bs ds d (set bs (n + i) c) (set ds (n + i) d) (set (set ps a (n + i)) b (n + i))
  puts_join {a} {b} {c} {d} p q r e =
      let z : c ≡ new = is_new p q r in
      record {
        up = up_more {bs' = set bs (n + i) c} (ap (set bs (n + i)) z) d (e ∙ ap diam_of z) (rw (p, q));
        before = put_before bs (n + i) c refl;
        adds = refl;
      }

-- ---- all joins
pub joins_more : {n : ℕ} {js : List ℕ} {i : ℕ} {old : List Box} {sum : ℕ} {bs : List Box} {ds ps : List ℕ} {d : ℕ} {bs' : List Box} {ds' ps' : List ℕ}
    → i < n - 1 → PutsJoins n js i old sum bs ds ps → PutsJoin n js i bs ds d bs' ds' ps' → PutsJoins n js (i + 1) old (sum + d) bs' ds' ps'
joins_more {n} {js} {i} {old} {sum} {bs} {ds} {ps} {d} {bs'} {ds'} {ps'} h w p =
    record {
      up = p.up;
      sinks = λ k g. p.before k (omega arith) ∙ w.sinks k g;
      sums = omega (arith, w.sums, same, here, sum_more (λ (j : ℕ). get_or ds' (n + j) 0) i);
      low = omega (arith, w.low, p.up.sized (n + i) (omega arith), here, fair-diam (p.up.fair (n + i) (omega arith)));
    }
  where
    here : get_or ds' (n + i) 0 ≡ d
    here = rw p.adds (get_or-set_same ds (n + i) d 0 (omega (arith, w.up.room.diameters)))

    same : sum_to (λ j. get_or ds' (n + j) 0) i ≡ sum_to (λ j. get_or ds (n + j) 0) i
    same = sum_same (λ j. get_or ds' (n + j) 0) (λ j. get_or ds (n + j) 0) i (λ j l. rw p.adds (get_or-set_other ds (n + i) (n + j) d 0 (λ e. omega arith)))

module _ (s : Sinks) (js : List ℕ) (o : Ordered s.n js) (bs : List Box)
    (sinks : (k : ℕ) → k < s.n → Covers s (k ∷ []) (box_at bs k))
    (hulls : (j : ℕ) → j < s.n - 1 → box_at bs (s.n + j) ≡ hull_of (box_at bs (left js j)) (box_at bs (right js j))) where
  -- the boxes of the sinks and of the first m joins are those of the sinks below them
  covered : (m : ℕ) → m ≤ s.n - 1 → Boxes s js (s.n + m) bs
  covered zero l k h = rw (below_sink s.n js o k (omega arith)) (sinks k (omega arith))
  covered (suc m) l k h = go (ltb k (s.n + m)) refl (covered m (omega arith))
    where
      go : (t : Bool) → ltb k (s.n + m) ≡ t → Boxes s js (s.n + m) bs → Covers s (below s.n js k) (box_at bs k)
      go true e all = all k (ltb-true k (s.n + m) e)
      go false e all =
          let q : k ≡ s.n + m = omega (arith, ltb-false k (s.n + m) e) in
          rw (q, below_join s.n js o m (omega arith))
          (subst (λ (b : Box). Covers s (below s.n js (left js m) ++ below s.n js (right js m)) b) (sym (hulls m (omega arith)))
          (covers_hull s (below s.n js (left js m)) (below s.n js (right js m)) (box_at bs (left js m)) (box_at bs (right js m))
          (sinks_some (node s.n js (left js m))) (sinks_some (node s.n js (right js m)))
          (all (left js m) (o.valid.low_left m (omega arith))) (all (right js m) (o.valid.low_right m (omega arith)))))

pub joins_made : {xs ys : List ℤ} {delays js : List ℕ} {old : List Box} {sum : ℕ} {bs : List Box} {ds ps : List ℕ} → Sound xs ys delays js → Sinked xs ys delays (length xs) old → PutsJoins (length xs) js (length xs - 1) old sum bs ds ps → AllNodes (sinks_at xs ys delays) js bs ds ps
joins_made {xs} {ys} {delays} {js} {old} {sum} {bs} {ds} {ps} sound put w =
    let n = length xs in
    let o = sound.joins in
    let some = o.some in
    record {
      ordered = o;
      room = w.up.room;
      boxed = λ k h.
          covered (sinks_at xs ys delays) js o bs
          (λ i g. subst (λ (b : Box). Covers (sinks_at xs ys delays) (i ∷ []) b) (sym (w.sinks i g)) (put.covers i g))
          w.up.hulls (n - 1) (omega arith) k (omega arith);
      sized = λ k h. w.up.sized k (omega arith);
      named = parents_done n js o ps w.up.named;
    }
