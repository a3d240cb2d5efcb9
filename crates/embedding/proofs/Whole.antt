-- From what the code's arrays hold to what document 01 says of the whole call.
use mathlib.Core.Path.{◌≡◌, refl, sym, ap, subst, ◌∙◌}
use mathlib.Core.Logic.{⊎_elim}
use mathlib.Core.Bool.{Bool, true, false, cond}
use mathlib.Core.List.{List, [], ◌∷◌}
use Prim.Native.Nat.{ℕ, ◌+◌, ◌-◌, ◌*◌, ◌≤◌, ◌<◌}
use native.Mathlib.Omega.{arith}
use borrow.Author.Tests.{ltb-true}
use lib.Dec.{ltb}
use lib.IntN.{ℤ, pos}
use lib.ListN.{length, get_or, drop, length-append, length-drop, get_or-append}
use lib.Seq.{ext_get_or, get_or-append-add, get_or-drop}
use Rattle.lists.specs.Grow.{tab, front}
use Rattle.lists.proofs.Tests.{or_lt}
use Rattle.lists.proofs.Grow.{length-grow, get_d_tab, tab_same}
use Rattle.zero_skew.specs.Plane.{Sinks, u, v}
use Rattle.plane.specs.Sinks.{sinks_at}
use Rattle.measures.specs.Covers.{Covers}
use Rattle.plane.proofs.Checks.{placed}
use Rattle.measures.proofs.Lifted.{unlift}
use Rattle.measures.proofs.Fairness.{fair-diam}
use Rattle.measures.specs.declared.segment.Spot.{Spot}
use Rattle.orders.specs.declared.nodes.Nodes.{Nodes}
use Rattle.orders.specs.Nodes.{d, parent, value, wire, places_u, places_v, wires, total}
use Rattle.orders.specs.Table.{box_at}
use Rattle.orders.specs.Arrays.{Rising, AllNodes, Longer, Climbs, wire_in}
use Rattle.embedding.specs.Ready.{Ready, Embeds}
use Rattle.embedding.specs.Places.{Sized, AllPlaced, spot_at, Spots, PutsDown, PutsSinks}
use Rattle.orders.proofs.Parents.{parent_above}
use Rattle.orders.proofs.Orders.{below_sink, rises}
use Rattle.orders.proofs.Totals.{fairs, diam_is, size_is}
use Rattle.orders.proofs.Lifting.{value_lifts}
use Rattle.embedding.proofs.Spots.{spot_is, spots_held, sink_near, sink-root, spots_all}

module _ {s : Sinks} {js : List ℕ} {N : ℕ} (ns : Nodes N) (m : AllNodes s js ns.hulls ns.diameters ns.parents) where
  abbrev n : ℕ
  n = s.n

  rising : Rising n ns.parents
  rising k h = rw (m.named k h) (parent_above n js m.ordered k h)

  longer : Longer n ns.diameters ns.parents
  longer k h =
      let a = parent_above n js m.ordered k h in
      rw (m.named k h, size_is m k (omega arith), size_is m (parent n js k) (omega arith)) (rises s js m.ordered k h)

  -- what the places are found from, and the wires
  pub all_sized : 2 * n - 1 ≤ N → N < 4294967296 → Sized n ns
  all_sized a b = record { some = m.ordered.some; few = m.ordered.few; room = a; fits = b; fair = fairs m; sized = m.sized; rising = rising }

  pub climbs : 2 * n - 1 ≤ N → Climbs n ns
  climbs a =
      record {
        some = m.ordered.some;
        few = m.ordered.few;
        room = a;
        rising = rising;
        longer = longer;
      }

  wire_is : (k : ℕ) → wire_in n ns k ≡ wire s js k
  wire_is k = go (ltb k (2 * n - 2)) refl
    where
      go : (t : Bool) → ltb k (2 * n - 2) ≡ t → cond t (get_or ns.diameters (get_or ns.parents k 0) 0 - get_or ns.diameters k 0) 0 ≡ cond t (d s js (parent n js k) - d s js k) 0
      go false e = refl
      go true e =
          let h = ltb-true k (2 * n - 2) e in
          let a = parent_above n js m.ordered k h in
          rw (m.named k h, size_is m k (omega arith), size_is m (parent n js k) (omega arith))

  wires_are : tab (wire_in n ns) (2 * n - 1) ≡ wires s js
  wires_are = tab_same (wire_in n ns) (wire s js) (2 * n - 1) (λ k h. wire_is k)

  module _ {us vs : List ℤ} (w : Spots n ns 0 us vs) where
    fit : (k x : ℕ) → k < 2 * n - 1 → 50000000 ≤ x → d s js k ≤ 2 * x
    fit k x h l = omega (arith, fair-diam (fairs m k h), diam_is m k h)

    u_is : (k : ℕ) → k < 2 * n - 1 → get_or us k (pos 0) ≡ value s (u s) js k
    u_is k h =
        (spots_held w k (omega arith) h).held_u
        ∙ unlift 128000000 (value s (u s) js k) (spot_at us vs k).u.0
        (value_lifts s js m.ordered (u s) (λ i. (box_at ns.hulls i).lu.0) (λ i. (box_at ns.hulls i).hu.0) (λ i. (spot_at us vs i).u.0)
        (λ i g. (m.boxed i g).least_u)
        (λ i g. (m.boxed i g).most_u)
        (λ i g. fit i (box_at ns.hulls i).hu.0 g (omega (arith, (fairs m i g).u_low, (fairs m i g).u_up)))
        (ap (λ (p : Spot). p.u.0) (spot_is w.root) ∙ rw (diam_is m (2 * n - 2) (omega arith)))
        (λ i g. ap (λ (p : Spot). p.u.0) (spot_is (w.next i (omega arith) g)) ∙ rw (diam_is m i (omega arith), m.named i g))
        k h)

    v_is : (k : ℕ) → k < 2 * n - 1 → get_or vs k (pos 0) ≡ value s (v s) js k
    v_is k h =
        (spots_held w k (omega arith) h).held_v
        ∙ unlift 128000000 (value s (v s) js k) (spot_at us vs k).v.0
        (value_lifts s js m.ordered (v s) (λ i. (box_at ns.hulls i).lv.0) (λ i. (box_at ns.hulls i).hv.0) (λ i. (spot_at us vs i).v.0)
        (λ i g. (m.boxed i g).least_v)
        (λ i g. (m.boxed i g).most_v)
        (λ i g. fit i (box_at ns.hulls i).hv.0 g (omega (arith, (fairs m i g).v_low, (fairs m i g).v_up)))
        (ap (λ (p : Spot). p.v.0) (spot_is w.root) ∙ rw (diam_is m (2 * n - 2) (omega arith)))
        (λ i g. ap (λ (p : Spot). p.v.0) (spot_is (w.next i (omega arith) g)) ∙ rw (diam_is m i (omega arith), m.named i g))
        k h)

-- a buffer whose first m entries are those that g makes, and whose others stayed
front_is : {A : Type 0} (g : ℕ → A) (m : ℕ) (a : A) (old new : List A) → length new ≡ length old → m ≤ length old
    → ((k : ℕ) → k < m → get_or new k a ≡ g k) → ((k : ℕ) → m ≤ k → get_or new k a ≡ get_or old k a) → new ≡ front (tab g m) old
front_is {A} g m a old new e h made kept = ext_get_or a new (front (tab g m) old) (sym sized) each
  where
    long : length (tab g m) ≡ m
    long = length-grow (λ l. g (length l)) m

    sized : length (front (tab g m) old) ≡ length new
    sized = rw (length-append (tab g m) (drop (length (tab g m)) old), length-drop (length (tab g m)) old) (omega (arith, long))

    each : (k : ℕ) → k < length new → get_or new k a ≡ get_or (front (tab g m) old) k a
    each k l =
        ⊎_elim
        (λ b. made k b ∙ sym (get_or-append (tab g m) (drop (length (tab g m)) old) a k (omega (arith, long)) ∙ get_d_tab g m k a b))
        (λ b.
        let i : length (tab g m) + (k - m) ≡ k = omega (arith, long) in
        kept k b ∙ sym (ap (λ (j : ℕ). get_or (front (tab g m) old) j a) (sym i) ∙ get_or-append-add (tab g m) (drop (length (tab g m)) old) (k - m) a ∙ get_or-drop (length (tab g m)) old (k - m) a ∙ ap (λ (j : ℕ). get_or old j a) i))
        (or_lt k m)

-- the buffers before, after the joins, and after the sinks
places_are : {xs ys : List ℤ} (delays : List ℕ) {js : List ℕ} {N : ℕ} {ns : Nodes N} {us vs mid-u mid-v us' vs' : List ℤ} → AllPlaced xs ys → AllNodes (sinks_at xs ys delays) js ns.hulls ns.diameters ns.parents
    → 2 * length xs - 1 ≤ length us → 2 * length xs - 1 ≤ length vs → length us' ≡ length us → length vs' ≡ length vs
    → PutsDown (length xs) ns (length xs) us vs mid-u mid-v → PutsSinks xs ys (length xs) mid-u mid-v us' vs'
    → (us' ≡ front (places_u (sinks_at xs ys delays) js) us) × (vs' ≡ front (places_v (sinks_at xs ys delays) js) vs)
places_are {xs} {ys} delays {js} {N} {ns} {us} {vs} {mid-u} {mid-v} {us'} {vs'} r m a b p q down own =
    let s = sinks_at xs ys delays in
    let all : Spots (length xs) ns 0 us' vs' =
    spots_all (rising ns m) (λ k h. sink-root xs ys delays k (box_at ns.hulls k) (r k h) (covers k h)) (λ k h. sink_near s k (box_at ns.hulls k) (covers k h)) down.spots own in (
      front_is (value s (u s) js) (2 * length xs - 1) (pos 0) us us' p a (u_is ns m all) (λ k h. own.kept_u k (omega arith) ∙ down.kept_u k h),
      front_is (value s (v s) js) (2 * length xs - 1) (pos 0) vs vs' q b (v_is ns m all) (λ k h. own.kept_v k (omega arith) ∙ down.kept_v k h),
    )
  where
    covers : (k : ℕ) → k < length xs → Covers (sinks_at xs ys delays) (k ∷ []) (box_at ns.hulls k)
    covers k h = subst (λ (l : List ℕ). Covers (sinks_at xs ys delays) l (box_at ns.hulls k)) (below_sink (length xs) js m.ordered k h) (m.boxed k (omega arith))

-- the whole call, from what its four parts leave
pub embeds : {xs ys : List ℤ} {delays js : List ℕ} {N : ℕ} {ns : Nodes N} {us vs mid-u mid-v us' vs' : List ℤ} {ws ws' : List ℕ} {t : ℕ} → Ready xs ys delays js us vs ws
    → AllNodes (sinks_at xs ys delays) js ns.hulls ns.diameters ns.parents → t ≡ total (sinks_at xs ys delays) js → length us' ≡ length us → length vs' ≡ length vs
    → PutsDown (length xs) ns (length xs) us vs mid-u mid-v → PutsSinks xs ys (length xs) mid-u mid-v us' vs' → ws' ≡ front (tab (wire_in (length xs) ns) (2 * length xs - 1)) ws
    → Embeds xs ys delays js us vs ws t us' vs' ws'
embeds {delays = delays} {ns = ns} {ws = ws} r m e p q down own w =
    let l = places_are delays {ns = ns} (placed r.sound.sinks) m r.room_u r.room_v p q down own in
    record { sums = e; writes_u = l.0; writes_v = l.1; writes_w = w ∙ ap (λ (x : List ℕ). front x ws) (wires_are ns m) }
