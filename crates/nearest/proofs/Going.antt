-- The code's lists beside the definition's, from join to join.
use mathlib.Core.Path.{◌≡◌, refl, sym, ap, subst, ◌∙◌}
use mathlib.Core.Bool.{Bool, true, false}
use mathlib.Core.List.{List, [], ◌∷◌, ◌++◌, append-nil, append_assoc}
use Prim.Native.Nat.{ℕ, suc, ◌+◌, ◌-◌, ◌*◌, ◌≤◌, ◌<◌}
use native.Mathlib.Omega.{arith}
use native.Mathlib.Numerals.{add-one}
use borrow.Author.Tests.{ltb-true, ltb-false}
use lib.Dec.{ltb}
use lib.IntN.{ℤ}
use lib.ListN.{length, get_or, take, drop, set, length-set, take-append-drop, get_or-append}
use lib.Seq.{take-suc-set, take_at, drop-set-lt, drop-drop, get_or_at, length-take-le}
use Rattle.lists.specs.Grow.{front, up_to}
use Rattle.lists.proofs.Grow.{get_d_tab, length-up_to, up_to_more}
use Rattle.zero_skew.specs.Plane.{Sinks}
use Rattle.measures.specs.declared.boxes.Box.{Box}
use Rattle.measures.specs.Boxes.{hull_of, InOrder}
use Rattle.measures.specs.Covers.{Covers}
use Rattle.plane.specs.Sinks.{sinks_at}
use Rattle.plane.proofs.Covering.{covers_hull, covers_diam}
use Rattle.partners.specs.declared.pair.Pair.{Pair}
use Rattle.partners.specs.declared.best.Choice.{Choice}
use Rattle.partners.specs.Closest.{pair, best, without, after}
use Rattle.nearest.specs.Nearest.{below, union, chosen, joins, alone, order}
use Rattle.orders.specs.Table.{box_at, Sinked}
use Rattle.partners.specs.Boxes.{reach}
use Rattle.partners.specs.Live.{Packed}
use Rattle.partners.specs.declared.rows.Rows.{Rows}
use Rattle.partners.specs.Rows.{row_at, skip_both, Right, Caching, pair_at, Picks, Closed, Entered}
use Rattle.nearest.specs.Rounds.{Open, Made, Round}
use Rattle.partners.proofs.Members.{all_without, in_all}
use Rattle.partners.proofs.Pairs.{Within, best_same}
use Rattle.partners.proofs.Boxing.{hull_in_order, covers_in_order}
use Rattle.partners.proofs.Packed.{packed_begin, packed_within}
use Rattle.orders.proofs.Boxing.{put_here, put_before}
use Rattle.nearest.proofs.Running.{Running, more, running_begin, running_turn}
use Rattle.partners.proofs.Entering.{right_same, right_enter}
use Rattle.partners.proofs.Closing.{right_close, without_at, left_after}

-- ---- the boxes are those of the sinks below each node
pub record Held (s : Sinks) (m : ℕ) (sets : List (List ℕ)) (bs : List Box) : Type 0 where
  pub full : (k : ℕ) → k < m → 0 < length (get_or sets k [])
  pub covers : (k : ℕ) → k < m → Covers s (get_or sets k []) (box_at bs k)

module _ {s : Sinks} {m : ℕ} {sets : List (List ℕ)} {bs : List Box} where
  pub held_hull : Held s m sets bs → (a b : ℕ) → a < m → b < m → Covers s (below sets (pair a b)) (hull_of (box_at bs a) (box_at bs b))
  held_hull v a b h g = covers_hull s (get_or sets a []) (get_or sets b []) (box_at bs a) (box_at bs b) (v.full a h) (v.full b g) (v.covers a h) (v.covers b g)

  pub held_same : Held s m sets bs → (a b : ℕ) → a < m → b < m → reach bs a b ≡ union s sets a b
  unfolding reach
  held_same v a b h g = covers_diam s (below sets (pair a b)) (hull_of (box_at bs a) (box_at bs b)) (held_hull v a b h g)

some : (xs ys : List ℕ) → 0 < length xs → 0 < length (xs ++ ys)
some [] ys h = let b : ⊥ = omega arith in absurd b
some (x ∷ xs) ys h = omega arith

-- what holds of each of m lists, and of one more, holds of all
more_each : (P : ℕ → List ℕ → Type 0) (sets : List (List ℕ)) (l : List ℕ) (m : ℕ) → length sets ≡ m → ((k : ℕ) → k < m → P k (get_or sets k [])) → P m l → (k : ℕ) → k < m + 1 → P k (get_or (sets ++ (l ∷ [])) k [])
more_each P sets l m e f p k h = go (ltb k m) refl
  where
    go : (t : Bool) → ltb k m ≡ t → P k (get_or (sets ++ (l ∷ [])) k [])
    go true q = let g = ltb-true k m q in rw (get_or-append sets (l ∷ []) [] k (omega (arith, e))) (f k g)
    go false q = let g : k ≡ m = omega (arith, ltb-false k m q) in rw (g, get_or_at sets l [] [] m e) p

pub held_turn : {s : Sinks} {m : ℕ} {sets : List (List ℕ)} {bs bs' : List Box} (p : Pair) → Held s m sets bs → length sets ≡ m → p.low < m → p.high < m → m < length bs → bs' ≡ set bs m (hull_of (box_at bs p.low) (box_at bs p.high)) → Held s (m + 1) (more sets p) bs'
held_turn {s} {m} {sets} {bs} {bs'} p v e h g r w =
    let b = hull_of (box_at bs p.low) (box_at bs p.high) in
    record {
      full = more_each (λ k l. 0 < length l) sets (below sets p) m e v.full (some (get_or sets p.low []) (get_or sets p.high []) (v.full p.low h));
      covers = λ k l.
          more_each (λ i o. Covers s o (box_at bs' i)) sets (below sets p) m e (λ i q. rw (put_before bs m b w i q) (v.covers i q)) (rw (put_here bs m b w r) (held_hull v p.low p.high h g)) k l;
    }

alone_at : (n k : ℕ) → k < n → get_or (alone n) k [] ≡ k ∷ []
alone_at n k h = get_d_tab (λ i. i ∷ []) n k [] h

pub held_begin : {xs ys : List ℤ} {delays : List ℕ} (n : ℕ) {bs : List Box} → Sinked xs ys delays n bs → Held (sinks_at xs ys delays) n (alone n) bs
held_begin n v = record { full = λ k h. rw (alone_at n k h) (omega arith); covers = λ k h. rw (alone_at n k h) (v.covers k h) }

-- ---- after i joins of n sinks
pub record Going (s : Sinks) (n i : ℕ) (bs : List Box) (live : List ℕ) (rows : Rows) (js₀ js : List ℕ) : Type 0 where
  pub sets : List (List ℕ)
  pub running : Running n i sets live
  pub held : Held s (n + i) sets bs
  pub right : Right bs live (n + i) (row_at rows)
  pub is : take (2 * i) js ++ joins s (n - 1 - i) sets live ≡ order s n
  pub rest : drop (2 * i) js ≡ drop (2 * i) js₀
  pub size : length js ≡ length js₀

-- at first, with all sinks at the front of a list
pub going_begin : {xs ys : List ℤ} {delays : List ℕ} (n : ℕ) {bs : List Box} {live : List ℕ} {rows : Rows} (rest js : List ℕ) → Sinked xs ys delays n bs → live ≡ up_to n → Right bs (up_to n) n (row_at rows) → Going (sinks_at xs ys delays) n 0 bs (take (n - 0) (live ++ rest)) rows js js
unfolding order
going_begin n {live = live} rest js v b m =
    let e : n + 0 ≡ n = omega arith in
    let k : n - 1 - 0 ≡ n - 1 = omega arith in
    let a : take (n - 0) (live ++ rest) ≡ up_to n = rw b (take_at (up_to n) rest (n - 0) (omega (arith, length-up_to n))) in
    record { sets = alone n; running = rw a (running_begin n); held = rw e (held_begin n v); right = rw (e, a) m; is = rw (k, a); rest = refl; size = refl }

-- the code chooses the definition's pair
pub pick_is : {s : Sinks} {n i : ℕ} {bs : List Box} {live : List ℕ} {rows : Rows} {js₀ js : List ℕ} (v : Going s n i bs live rows js₀ js) → best (reach bs) live ≡ chosen s v.sets live
pick_is {s} {n} {i} {bs} v = best_same (reach bs) (union s v.sets) (n + i) (held_same v.held) v.running.packed.low

-- there is a pair to find: what the leaf asks
pub open_caching : {n i : ℕ} {bs : List Box} {live : List ℕ} {rows : Rows} {js : List ℕ} → Open n i bs live rows js → Caching bs live rows
open_caching {n} {i} o =
    let p = o.packed in
    record {
      top = n + i;
      right = o.right;
      upright = o.upright;
      rising = p.rising;
      low = p.low;
      few_nodes = omega (arith, o.turn, o.few);
      two = omega (arith, p.count, o.turn);
      few = omega (arith, p.count, o.few);
    }

-- its two nodes are lower than the one that they make
within_low : {n i : ℕ} {live : List ℕ} {p : Pair} → Packed n i live → Within live p → (p.low < n + i) × (p.high < n + i)
within_low v w = (in_all w.low_in v.low, in_all w.high_in v.low)

pub open_low : {n i : ℕ} {bs : List Box} {live : List ℕ} {rows : Rows} {js : List ℕ} (p : Pair) → Open n i bs live rows js → p ≡ best (reach bs) live → (p.low < n + i) × (p.high < n + i)
open_low {bs = bs} p o e = rw e (within_low o.packed (packed_within (reach bs) o.packed o.turn))

-- and its hull has its ends in order
pub open_upright : {n i : ℕ} {bs bs' : List Box} {live : List ℕ} {rows : Rows} {js : List ℕ} (p : Pair) (b : Box) → Open n i bs live rows js → p ≡ best (reach bs) live → bs' ≡ set bs (n + i) (hull_of (box_at bs p.low) (box_at bs p.high)) → b ≡ box_at bs' (n + i) → InOrder b
open_upright {n} {i} {bs} p b o e w is = subst InOrder (sym (is ∙ put_here bs (n + i) (hull_of (box_at bs p.low) (box_at bs p.high)) w o.box-room)) (hull_in_order (box_at bs p.low) (box_at bs p.high) (o.upright p.high (open_low p o e).1))

-- ---- after a join: the two left, and the new node entered after the others
module _ {n i : ℕ} {bs : List Box} {live : List ℕ} {rows rows1 : Rows} {js : List ℕ} (c : Choice) (o : Open n i bs live rows js) (k : Picks bs live rows c rows1) where
  -- which nodes stay
  stay : ((t : ℕ) → t < length (without (pair_at live c) live) → get_or (without (pair_at live c) live) t 0 ≡ get_or live (skip_both c t) 0) × (length (without (pair_at live c) live) + 2 ≡ length live)
  stay = without_at (pair_at live c) c.row c.with o.packed.rising k.up k.inside refl refl

  module _ {bs' : List Box} {live' : List ℕ} {rows2 : Rows} {b : Box} (is : b ≡ box_at bs' (n + i)) (d : Closed c b (n + i) live live' rows1 rows2) where
    -- what is kept is right again
    right_round : bs' ≡ set bs (n + i) (hull_of (box_at bs (pair_at live c).low) (box_at bs (pair_at live c).high)) → Right bs' (after (pair_at live c) (n + i) live) (n + i + 1) (row_at rows2)
    right_round u =
        let low = all_without (pair_at live c) o.packed.low in
        let v = right_close c.row c.with (k.right (n + i) o.packed.low o.right) stay.1 stay.0 in
        right_enter b (length live - 2) is (omega (arith, stay.1)) (right_same v low (put_before bs (n + i) (hull_of (box_at bs (pair_at live c).low) (box_at bs (pair_at live c).high)) u)) low d.enters

    pub round_of : (p : Pair) {js' : List ℕ} → pair_at live c ≡ best (reach bs) live → p ≡ pair_at live c → length live' ≡ length live → bs' ≡ set bs (n + i) (hull_of (box_at bs p.low) (box_at bs p.high)) → js' ≡ set (set js (2 * i) p.low) (2 * i + 1) p.high → Round n i bs bs' live live' rows2 js js'
    round_of p y e s u x =
        let a : Made (n + i) (pair_at live c) bs bs' live live' = record { puts = rw e at u; packs = left_after (pair_at live c) (n + i) live live' c.row c.with s stay.1 stay.0 d.nodes d.last } in
        record { made = rw y at a; right = rw y at (right_round (rw e at u)); writes = rw (e ∙ y) at x }

-- ---- the rows of the sinks, one at a time
pub right_sink : {bs : List Box} (i : ℕ) (b : Box) (rows rows' : Rows) → Right bs (up_to i) i (row_at rows) → b ≡ box_at bs i → Entered i b i (row_at rows) (row_at rows') → Right bs (up_to (i + 1)) (i + 1) (row_at rows')
right_sink i b rows rows' v is w =
    let z : i + 0 ≡ i = omega arith in
    rw (up_to_more i) (right_enter b i is (sym (length-up_to i)) v (rw z at (packed_begin i).low) w)

two_more : (l : List ℕ) (k a b : ℕ) → k + 1 < length l → take (k + 2) (set (set l k a) (k + 1) b) ≡ take k l ++ (a ∷ b ∷ [])
two_more l k a b h =
    let e : k + 2 ≡ suc (k + 1) = omega arith in
    rw (e, take-suc-set (set l k a) (k + 1) b (rw length-set h), add-one, take-suc-set l k a (omega arith), append_assoc)

-- the live nodes after a join stand where those before it stood, at the front of a list
next_live : (k : ℕ) (new live rest : List ℕ) → take k live ≡ new → length new ≡ k → take k (live ++ rest) ≡ new
next_live k new live rest e h = ap (λ (l : List ℕ). take k (l ++ rest)) (sym (take-append-drop k live)) ∙ rw (e, append_assoc) (take_at new (drop k live ++ rest) k h)

module _ {s : Sinks} {n i : ℕ} {bs bs' : List Box} {live live' : List ℕ} {rows rows' : Rows} {js₀ js js' : List ℕ} where
  pub going_turn : (rest : List ℕ) → Going s n i bs live rows js₀ js → i + 1 < n → 2 * i + 1 < length js → n + i < length bs → Round n i bs bs' live live' rows' js js' → Going s n (i + 1) bs' (take (n - (i + 1)) (live' ++ rest)) rows' js₀ js'
  unfolding joins
  going_turn rest v h b r d =
      let p = best (reach bs) live in
      let q = chosen s v.sets live in
      let w = packed_within (reach bs) v.running.packed h in
      let (low, high) = within_low v.running.packed w in
      let up : n + (i + 1) ≡ n + i + 1 = omega arith in
      let two : 2 * (i + 1) ≡ 2 * i + 2 = omega arith in
      let less : n - 1 - i ≡ suc (n - 1 - (i + 1)) = omega arith in
      let run = running_turn p v.running w in
      let one : length live - 1 ≡ n - (i + 1) = omega (arith, v.running.packed.count) in
      let next = next_live (n - (i + 1)) (after p (n + i) live) live' rest (rw one at d.made.packs) run.packed.count in
      record {
        sets = more v.sets p;
        running = rw next run;
        held = rw up (held_turn p v.held v.running.size low high r d.made.puts);
        right = rw (next, up) d.right;
        is =
            rw (d.writes, two, two_more js (2 * i) p.low p.high b, append_assoc, next, pick_is v)
            (let step : joins s (n - 1 - i) v.sets live ≡ q.low ∷ q.high ∷ joins s (n - 1 - (i + 1)) (more v.sets q) (after q (n + i) live) = rw (less, v.running.size) in
            rw step at v.is);
        rest =
            rw (d.writes, two)
            (drop-set-lt (2 * i + 2) (set js (2 * i) p.low) (2 * i + 1) p.high (omega arith)
            ∙ drop-set-lt (2 * i + 2) js (2 * i) p.low (omega arith)
            ∙ sym (drop-drop 2 (2 * i) js)
            ∙ ap (drop 2) v.rest
            ∙ drop-drop 2 (2 * i) js₀);
        size = rw d.writes (simp length-set v.size);
      }

pub going_open : {s : Sinks} {n i : ℕ} {bs : List Box} {live : List ℕ} {rows : Rows} {js₀ js : List ℕ} → Going s n i bs live rows js₀ js → i + 1 < n → n ≤ 512 → 1023 ≤ length bs → 2 * (n - 1) ≤ length js₀ → Open n i bs live rows js
going_open v h f b r = record { packed = v.running.packed; right = v.right; upright = λ k l. covers_in_order (v.held.covers k l); turn = h; few = f; box-room = omega arith; room = omega (arith, v.size) }

pub going_end : {s : Sinks} {n i : ℕ} {bs : List Box} {live : List ℕ} {rows : Rows} {js₀ js : List ℕ} → Going s n i bs live rows js₀ js → i ≡ n - 1 → 2 * (n - 1) ≤ length js₀ → js ≡ front (order s n) js₀
unfolding joins
going_end {s} {n} {i} {js₀ = js₀} {js} v e r =
    let z : n - 1 - i ≡ 0 = omega arith in
    let o : take (2 * i) js ≡ order s n = sym (append-nil (take (2 * i) js)) ∙ (rw z at v.is) in
    let k : length (order s n) ≡ 2 * i = sym (ap length o) ∙ length-take-le (2 * i) js (omega (arith, v.size)) in
    rw (k, sym o, sym v.rest) (sym (take-append-drop (2 * i) js))
