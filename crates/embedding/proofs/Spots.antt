-- The pass down: the places in the buffers, a node more from the root on; and those of the sinks.
use mathlib.Core.Path.{◌≡◌, sym, ap, subst, ◌∙◌}
use mathlib.Core.Logic.{⊎_elim}
use mathlib.Core.List.{List, [], ◌∷◌}
use Prim.Native.Nat.{ℕ, ◌+◌, ◌-◌, ◌*◌, ◌≤◌, ◌<◌, min, max}
use native.Mathlib.Omega.{arith}
use lib.IntN.{ℤ, pos}
use lib.ListN.{length, get_or}
use lib.Seq.{get_or-set_same, get_or-set_other}
use Rattle.lists.proofs.Tests.{or_lt}
use Rattle.measures.specs.Measures.{lowered, raised}
use Rattle.measures.specs.Boxes.{sink_box, diam_of, Fair}
use Rattle.plane.specs.Sinks.{sinks_at, Placed}
use Rattle.zero_skew.specs.Plane.{Sinks}
use Rattle.measures.specs.Covers.{Covers}
use Rattle.measures.specs.Spots.{root_of, nearest_of}
use Rattle.measures.proofs.Numbers.{raised-lowered}
use Rattle.measures.proofs.Fairness.{fair-diam}
use Rattle.plane.proofs.Covering.{covers_sink, own_box, own_diam, moved_by}
use Rattle.measures.specs.declared.boxes.Box.{Box}
use Rattle.measures.specs.declared.segment.Spot.{Spot}
use Rattle.orders.specs.declared.nodes.Nodes.{Nodes}
use Rattle.orders.specs.Table.{box_at}
use Rattle.orders.specs.Arrays.{Rising}
use Rattle.embedding.specs.Places.{Low, Sized, spot_at, SpotHeld, Has, Placeable, PutsSpot, Spots, PutsDown, PutsSinks}

-- ---- places fit
root_low : (hi d : ℕ) → hi ≤ 78000000 → 2 * hi - d ≤ 184000000
root_low hi d h = omega arith

near_low : (lo hi d p : ℕ) → lo ≤ hi → hi ≤ 78000000 → d ≤ 28000000 → max (2 * hi - d) (min (2 * lo + d) p) ≤ 184000000
near_low lo hi d p h g l = omega arith

pub low_root : {b : Box} → Fair b → Low (root_of b)
low_root {b} f =
    record {
      low_u = root_low b.hu.0 (diam_of b) f.u_high;
      low_v = root_low b.hv.0 (diam_of b) f.v_high;
    }

pub low_near : {b : Box} (p : Spot) → Fair b → Low (nearest_of b p)
low_near {b} p f =
    record {
      low_u = near_low b.lu.0 b.hu.0 (diam_of b) p.u.0 f.u_up f.u_high (fair-diam f);
      low_v = near_low b.lv.0 b.hv.0 (diam_of b) p.v.0 f.v_up f.v_high (fair-diam f);
    }

-- ---- what two buffers hold
module _ {us vs : List ℤ} {k : ℕ} where
  pub spot_is : {p : Spot} → SpotHeld us vs k p → spot_at us vs k ≡ p
  spot_is {p} h = λ i. record { u = (ap raised h.held_u ∙ raised-lowered p.u.0) i; v = (ap raised h.held_v ∙ raised-lowered p.v.0) i }

  held_own : {p : Spot} → SpotHeld us vs k p → SpotHeld us vs k (spot_at us vs k)
  held_own {p} h = subst (SpotHeld us vs k) (sym (spot_is h)) h

-- the buffers after, which hold the same for node k
module _ (us vs us' vs' : List ℤ) (k : ℕ) (a : get_or us' k (pos 0) ≡ get_or us k (pos 0)) (b : get_or vs' k (pos 0) ≡ get_or vs k (pos 0)) where
  same_spot : spot_at us vs k ≡ spot_at us' vs' k
  same_spot = λ i. record { u = ap raised (sym a) i; v = ap raised (sym b) i }

  same_held : {p : Spot} → SpotHeld us vs k p → SpotHeld us' vs' k p
  same_held h = record { held_u = a ∙ h.held_u; held_v = b ∙ h.held_v; low = h.low }

module _ {k : ℕ} {p : Spot} {us vs us' vs' : List ℤ} (w : PutsSpot k p us vs us' vs') where
  put_here : Low p → Has us vs k → SpotHeld us' vs' k p
  put_here l h =
      record {
        held_u = rw w.writes_u (get_or-set_same us k (lowered p.u.0) (pos 0) h.0);
        held_v = rw w.writes_v (get_or-set_same vs k (lowered p.v.0) (pos 0) h.1);
        low = l;
      }

  other_u : (i : ℕ) → (i ≡ k → ⊥) → get_or us' i (pos 0) ≡ get_or us i (pos 0)
  other_u i r = rw w.writes_u (get_or-set_other us k i (lowered p.u.0) (pos 0) r)

  other_v : (i : ℕ) → (i ≡ k → ⊥) → get_or vs' i (pos 0) ≡ get_or vs i (pos 0)
  other_v i r = rw w.writes_v (get_or-set_other vs k i (lowered p.v.0) (pos 0) r)

-- ---- the joins
module _ {n N : ℕ} {ns : Nodes N} where
  pub spots_held : {m : ℕ} {us vs : List ℤ} → Spots n ns m us vs → (k : ℕ) → m ≤ k → k < 2 * n - 1 → SpotHeld us vs k (spot_at us vs k)
  spots_held {m} {us} {vs} w k h g =
      ⊎_elim
      (λ l. held_own (w.next k h l))
      (λ l. let e : 2 * n - 2 ≡ k = omega arith in rw e at (held_own w.root))
      (or_lt k (2 * n - 2))

  pub down_begin : {us vs us' vs' : List ℤ} → Sized n ns → 2 * n - 1 ≤ length us → 2 * n - 1 ≤ length vs → PutsSpot (2 * n - 2) (root_of (box_at ns.hulls (2 * n - 2))) us vs us' vs' → PutsDown n ns (2 * n - 2) us vs us' vs'
  down_begin {us} {vs} {us'} {vs'} z h g w =
      let some = z.some in
      record {
        spots = record { root = put_here w (low_root (z.fair (2 * n - 2) (omega arith))) (omega arith, omega arith); next = λ k a b. absurd (omega arith) };
        kept_u = λ k l. other_u w k (λ e. omega arith);
        kept_v = λ k l. other_v w k (λ e. omega arith);
      }

  pub down_more : {k : ℕ} {old-u old-v us vs us' vs' : List ℤ} (p : ℕ) → p ≡ get_or ns.parents (k - 1) 0 → 0 < k → k ≤ 2 * n - 2 → Rising n ns.parents → Fair (box_at ns.hulls (k - 1)) → Has us vs (k - 1) → PutsDown n ns k old-u old-v us vs
      → PutsSpot (k - 1) (nearest_of (box_at ns.hulls (k - 1)) (spot_at us vs p)) us vs us' vs' → PutsDown n ns (k - 1) old-u old-v us' vs'
  down_more {k} {old-u} {old-v} {us} {vs} {us'} {vs'} p z h g rise f has made w =
      record {
        spots = record { root = kept (2 * n - 2) (omega arith) made.spots.root; next = λ i a b. go i a b };
        kept_u = λ i l. other_u w i (λ e. omega arith) ∙ made.kept_u i l;
        kept_v = λ i l. other_v w i (λ e. omega arith) ∙ made.kept_v i l;
      }
    where
      kept : (i : ℕ) → k ≤ i → {q : Spot} → SpotHeld us vs i q → SpotHeld us' vs' i q
      kept i l {q} y = same_held us vs us' vs' i (other_u w i (λ e. omega arith)) (other_v w i (λ e. omega arith)) y

      here : SpotHeld us' vs' (k - 1) (nearest_of (box_at ns.hulls (k - 1)) (spot_at us vs (get_or ns.parents (k - 1) 0)))
      here = subst (λ (j : ℕ). SpotHeld us' vs' (k - 1) (nearest_of (box_at ns.hulls (k - 1)) (spot_at us vs j))) z (put_here w (low_near (spot_at us vs p) f) has)

      -- a parent's place stays
      above : (i : ℕ) → k - 1 ≤ i → i < 2 * n - 2 → SpotHeld us' vs' i (nearest_of (box_at ns.hulls i) (spot_at us vs (get_or ns.parents i 0))) → SpotHeld us' vs' i (nearest_of (box_at ns.hulls i) (spot_at us' vs' (get_or ns.parents i 0)))
      above i a b y =
          let r = (rise i b).0 in
          subst (λ (q : Spot). SpotHeld us' vs' i (nearest_of (box_at ns.hulls i) q)) (same_spot us vs us' vs' (get_or ns.parents i 0) (other_u w (get_or ns.parents i 0) (λ e. omega arith)) (other_v w (get_or ns.parents i 0) (λ e. omega arith))) y

      go : (i : ℕ) → k - 1 ≤ i → i < 2 * n - 2 → SpotHeld us' vs' i (nearest_of (box_at ns.hulls i) (spot_at us' vs' (get_or ns.parents i 0)))
      go i a b =
          ⊎_elim
          (λ l. let e : k - 1 ≡ i = omega arith in above i a b (rw e at here))
          (λ l. above i a b (kept i l (made.spots.next i l b)))
          (or_lt i k)

  pub down_done : {k m : ℕ} {old-u old-v mid-u mid-v us vs : List ℤ} → k ≤ n → PutsDown n ns m old-u old-v mid-u mid-v → PutsDown n ns k mid-u mid-v us vs → PutsDown n ns n old-u old-v us vs
  down_done {k} {m} h a b =
      record {
        spots = record { root = b.spots.root; next = λ i l. b.spots.next i (omega arith) };
        kept_u = λ i l. b.kept_u i l ∙ a.kept_u i l;
        kept_v = λ i l. b.kept_v i l ∙ a.kept_v i l;
      }

-- node k can be read and written
pub open_at : {n : ℕ} {N : ℕ} {ns : Nodes N} {us vs : List ℤ} (k : ℕ) → Sized n ns → 2 * n - 1 ≤ length us → 2 * n - 1 ≤ length vs → k < 2 * n - 1 → Placeable k ns us vs
open_at k w a b h =
    record {
      inside = omega (arith, w.room);
      fits = w.fits;
      has = (omega arith, omega arith);
      fair = w.fair k h;
      size = w.sized k h;
    }

-- the node before the one that the pass has come to, and its parent
pub open_next : {n k p : ℕ} {N : ℕ} {ns : Nodes N} {us vs : List ℤ} → Sized n ns → 2 * n - 1 ≤ length us → 2 * n - 1 ≤ length vs → n < k → k ≤ 2 * n - 2 → p ≡ get_or ns.parents (k - 1) 0 → Spots n ns k us vs → Placeable (k - 1) ns us vs × Has us vs p × SpotHeld us vs p (spot_at us vs p)
open_next {n} {k} {p} w a b h g e z =
    let r = w.rising (k - 1) (omega arith) in
    let low : k ≤ p = omega (arith, r.0) in
    let high : p < 2 * n - 1 = omega (arith, r.1) in
    (open_at (k - 1) w a b (omega arith), (omega arith, omega arith), spots_held z p low high)

-- ---- the sinks
-- a range of one value
one_value : (lo hi w d p : ℕ) → hi ≡ lo + 2 * w → d ≡ 2 * w → max (2 * hi - d) (min (2 * lo + d) p) ≡ 2 * hi - d
one_value lo hi w d p e f = omega arith

-- so no parent moves a sink
pub sink_near : (s : Sinks) (k : ℕ) (b : Box) → Covers s (k ∷ []) b → (p : Spot) → root_of b ≡ nearest_of b p
sink_near s k b c p = λ i. record {
  u = record { 0 = sym (one_value b.lu.0 b.hu.0 (s.wait k) (diam_of b) p.u.0 (own_box s k b c).0 (own_diam s k b c)) i };
  v = record { 0 = sym (one_value b.lv.0 b.hv.0 (s.wait k) (diam_of b) p.v.0 (own_box s k b c).1 (own_diam s k b c)) i };
}

-- two boxes of one sink, with its delay and without, have one place
one_middle : (lo hi d lo₀ hi₀ d₀ w : ℕ) → hi ≡ lo + 2 * w → d ≡ 2 * w → hi₀ ≡ lo₀ → d₀ ≡ 0 → lo + w ≡ lo₀ → 2 * hi₀ - d₀ ≡ 2 * hi - d
one_middle lo hi d lo₀ hi₀ d₀ w a b e f g = omega arith

pub sink-root : (xs ys : List ℤ) (delays : List ℕ) (k : ℕ) (b : Box) → Placed xs ys k → Covers (sinks_at xs ys delays) (k ∷ []) b → root_of (sink_box (get_or xs k (pos 0)) (get_or ys k (pos 0)) 0) ≡ root_of b
sink-root xs ys delays k b p c =
    let o = sink_box (get_or xs k (pos 0)) (get_or ys k (pos 0)) 0 in
    let c₀ = covers_sink xs ys [] k p.near_x p.near_y (omega arith) in
    let e = own_box (sinks_at xs ys delays) k b c in
    let d = own_diam (sinks_at xs ys delays) k b c in
    let e₀ = own_box (sinks_at xs ys []) k o c₀ in
    let d₀ = own_diam (sinks_at xs ys []) k o c₀ in
    let m = moved_by xs ys delays k b o c c₀ in
    λ i. record {
      u = record { 0 = one_middle b.lu.0 b.hu.0 (diam_of b) o.lu.0 o.hu.0 (diam_of o) (get_or delays k 0) e.0 d (omega (arith, e₀.0)) (omega (arith, d₀)) m.0 i };
      v = record { 0 = one_middle b.lv.0 b.hv.0 (diam_of b) o.lv.0 o.hv.0 (diam_of o) (get_or delays k 0) e.1 d (omega (arith, e₀.1)) (omega (arith, d₀)) m.1 i };
    }

-- the box of a place
pub flat : {xs ys : List ℤ} {k : ℕ} {b : Box} → Placed xs ys k → b ≡ sink_box (get_or xs k (pos 0)) (get_or ys k (pos 0)) 0 → Fair b × (0 ≡ diam_of b)
flat {xs} {ys} {k} {b} p e =
    let c : Covers (sinks_at xs ys []) (k ∷ []) b = subst (Covers (sinks_at xs ys []) (k ∷ [])) (sym e) (covers_sink xs ys [] k p.near_x p.near_y (omega arith)) in
    (c.fair, omega (arith, own_diam (sinks_at xs ys []) k b c))

module _ {xs ys : List ℤ} where
  pub sinks_more : {k : ℕ} {b : Box} {p : Spot} {old-u old-v us vs us' vs' : List ℤ} → Fair b → b ≡ sink_box (get_or xs k (pos 0)) (get_or ys k (pos 0)) 0 → p ≡ root_of b → Has us vs k → PutsSinks xs ys k old-u old-v us vs
      → PutsSpot k p us vs us' vs' → PutsSinks xs ys (k + 1) old-u old-v us' vs'
  sinks_more {k} {b} {p} {old-u} {old-v} {us} {vs} {us'} {vs'} f e g has made w =
      record {
        own = λ i l. ⊎_elim (λ g. same_held us vs us' vs' i (other_u w i (λ q. omega arith)) (other_v w i (λ q. omega arith)) (made.own i g)) (λ g. let q : k ≡ i = omega arith in rw q at here) (or_lt i k);
        kept_u = λ i l. other_u w i (λ q. omega arith) ∙ made.kept_u i (omega arith);
        kept_v = λ i l. other_v w i (λ q. omega arith) ∙ made.kept_v i (omega arith);
      }
    where
      here : SpotHeld us' vs' k (root_of (sink_box (get_or xs k (pos 0)) (get_or ys k (pos 0)) 0))
      here = subst (SpotHeld us' vs' k) (g ∙ ap root_of e) (put_here w (subst Low (sym g) (low_root f)) has)

  -- with the sinks, all nodes have their places
  pub spots_all : {N : ℕ} {ns : Nodes N} {us vs us' vs' : List ℤ} → Rising (length xs) ns.parents
      → ((k : ℕ) → k < length xs → root_of (sink_box (get_or xs k (pos 0)) (get_or ys k (pos 0)) 0) ≡ root_of (box_at ns.hulls k)) → ((k : ℕ) → k < length xs → (p : Spot) → root_of (box_at ns.hulls k) ≡ nearest_of (box_at ns.hulls k) p)
      → Spots (length xs) ns (length xs) us vs → PutsSinks xs ys (length xs) us vs us' vs' → Spots (length xs) ns 0 us' vs'
  spots_all {N} {ns} {us} {vs} {us'} {vs'} rise stands still made w =
      record {
        root = ⊎_elim (λ g. own (2 * length xs - 2) g) (λ g. kept (2 * length xs - 2) g made.root) (or_lt (2 * length xs - 2) (length xs));
        next = λ k h l. ⊎_elim (λ g. near k g (spot_at us' vs' (get_or ns.parents k 0))) (λ g. above k g l (kept k g (made.next k g l))) (or_lt k (length xs));
      }
    where
      own : (k : ℕ) → k < length xs → SpotHeld us' vs' k (root_of (box_at ns.hulls k))
      own k g = subst (SpotHeld us' vs' k) (stands k g) (w.own k g)

      near : (k : ℕ) → k < length xs → (p : Spot) → SpotHeld us' vs' k (nearest_of (box_at ns.hulls k) p)
      near k g p = subst (SpotHeld us' vs' k) (still k g p) (own k g)

      kept : (k : ℕ) → length xs ≤ k → {p : Spot} → SpotHeld us vs k p → SpotHeld us' vs' k p
      kept k g {p} z = same_held us vs us' vs' k (w.kept_u k g) (w.kept_v k g) z

      above : (k : ℕ) → length xs ≤ k → k < 2 * length xs - 2 → SpotHeld us' vs' k (nearest_of (box_at ns.hulls k) (spot_at us vs (get_or ns.parents k 0))) → SpotHeld us' vs' k (nearest_of (box_at ns.hulls k) (spot_at us' vs' (get_or ns.parents k 0)))
      above k g l z =
          let r = (rise k l).0 in
          subst (λ (q : Spot). SpotHeld us' vs' k (nearest_of (box_at ns.hulls k) q)) (same_spot us vs us' vs' (get_or ns.parents k 0) (w.kept_u (get_or ns.parents k 0) (omega arith)) (w.kept_v (get_or ns.parents k 0) (omega arith))) z
