-- What an accepted call is worth: the lists describe a zero-skew tree, joined in the order given, whose wire is the total; no zero-skew tree with that joining order is shorter; and it is an outcome of deferred-merge embedding.
use mathlib.Core.Path.{◌≡◌, refl, ap, ◌∙◌}
use mathlib.Core.List.{List}
use Prim.Native.Nat.{ℕ, ◌-◌, ◌*◌, ◌≤◌, ◌<◌}
use lib.IntN.{ℤ, pos}
use lib.ListN.{length, get_or}
use Rattle.lists.proofs.Grow.{sum_same}
use Rattle.lists.proofs.Front.{front-tab}
use Rattle.zero_skew.specs.Plane.{Sinks, u, v}
use Rattle.zero_skew.specs.Order.{Order, one, both, order, embed}
use Rattle.zero_skew.proofs.DeferredMerge.{is_deferred_merge}
use Rattle.zero_skew.proofs.Embedding.{embedded_zero_skew, embedded-paths, embedded-wire}
use Rattle.zero_skew.proofs.LeastForOrder.{least_for_order}
use Rattle.plane.specs.Sinks.{sinks_at, prompt}
use Rattle.std.specs.Prelude.{Ok}
use Rattle.plane.specs.Said.Said.{answered}
use Rattle.plane.proofs.Answered.{after_answered}
use Rattle.orders.specs.Nodes.{node, value, wire, total}
use Rattle.orders.specs.Joins.{check_order}
use Rattle.embedding.specs.Embedding.{check_room, answer}
use Rattle.plane.specs.Refusals.{and_then}
use Rattle.embedding.specs.Ready.{Embeds}
use Rattle.orders.specs.Sound.{Ordered, Sound}
use Rattle.embedding.specs.Permitted.{Permitted}
use Rattle.embedding.specs.Described.{Level}
use Rattle.plane.proofs.Checks.{both_pass}
use Rattle.orders.proofs.Bounded.{total_bounded, no_delay_bounded, order-ranged, order-sound}
use Rattle.orders.proofs.Joined.{over, halves_are}
use Rattle.orders.proofs.Theorem4.{wires_add_up}
use Rattle.embedding.proofs.Described.{Holds, described_is}

embed-order : (s : Sinks) (w : Order) (U V' : ℤ) → order (embed s w U V') ≡ w
unfolding order embed
embed-order s (one i) U V' = refl
embed-order s (both l r) U V' = rw (embed-order s l _ _, embed-order s r _ _)

module _ (s : Sinks) (js : List ℕ) (o : Ordered s.n js) where
  abbrev root : Order
  root = node s.n js (2 * s.n - 2)

  pub level : (us vs : List ℤ) (ws : List ℕ) → Holds s js us vs ws → Level s js us vs ws (total s js)
  level us vs ws holds =
      let e = described_is s js o us vs ws holds in
      let t = halves_are s js o in
      record {
        zero_skew = rw e (embedded_zero_skew s root (over s js o));
        paths = rw e (embedded-paths s root);
        joined = rw e (embed-order s root _ _);
        long = rw e (embedded-wire s root (over s js o) ∙ ap (λ (m : ℕ). 2 * m) t);
        sums = sum_same (λ k. get_or ws k 0) (wire s js) (2 * s.n - 1) holds.ws_are ∙ wires_add_up s js o;
        least = λ k g z a. rw (← t) (least_for_order s root (over s js o) k g z a);
        deferred = rw e (is_deferred_merge s root);
      }

-- ---- of a call, from what it wrote
pub embeds_level : (xs ys : List ℤ) (delays js : List ℕ) (us vs : List ℤ) (ws : List ℕ) (t : ℕ) (us' vs' : List ℤ) (ws' : List ℕ)
    → Sound xs ys delays js → Embeds xs ys delays js us vs ws t us' vs' ws' → Level (sinks_at xs ys delays) js us' vs' ws' t
embeds_level xs ys delays js us vs ws t us' vs' ws' sound e =
    let s = sinks_at xs ys delays in
    rw e.sums
    (level s js sound.joins us' vs' ws'
    (record {
      us_are = λ k h. rw e.writes_u (front-tab (value s (u s) js) (2 * length xs - 1) us k (pos 0) h);
      vs_are = λ k h. rw e.writes_v (front-tab (value s (v s) js) (2 * length xs - 1) vs k (pos 0) h);
      ws_are = λ k h. rw e.writes_w (front-tab (wire s js) (2 * length xs - 1) ws k 0 h);
    }))

-- from the contract of `embed` alone
module _ (xs ys : List ℤ) (delays js : List ℕ) (us vs : List ℤ) (ws : List ℕ) (t : ℕ) (us' vs' : List ℤ) (ws' : List ℕ)
    (call : Permitted xs ys delays js us vs ws (answered t) us' vs' ws') where
  shown : (check_order xs ys delays js ≡ Ok tt) × (t ≡ total (sinks_at xs ys delays) js)
  unfolding answer
  shown =
      let rooms = check_room (2 * length xs - 1) (length us) (length vs) (length ws) in
      let (a, q) = after_answered (and_then (check_order xs ys delays js) rooms) (total (sinks_at xs ys delays) js) t call.answers in
      let (b, _) = both_pass (check_order xs ys delays js) rooms a in
      (b, q)

  pub accepted_level : Level (sinks_at xs ys delays) js us' vs' ws' t
  accepted_level =
      embeds_level xs ys delays js us vs ws t us' vs' ws' (order-sound xs ys delays js shown.0)
      (record { sums = shown.1; writes_u = call.writes_u; writes_v = call.writes_v; writes_w = call.writes_w })

  -- "Totals .. stay below 3,072,000,000."
  pub accepted_bounded : t < 3072000000
  accepted_bounded =
      let (r, o) = order-ranged xs ys delays js shown.0 in
      rw shown.1 (total_bounded r o)

  -- "A total never passes 2,048,000,000", where no sink has a delay
  pub accepted_prompt : delays ≡ prompt xs → t ≤ 2048000000
  accepted_prompt e =
      let (r, o) = order-ranged xs ys delays js shown.0 in
      rw shown.1 (no_delay_bounded e r o)
