-- What the lent buffers hold after an accepted call of `search`, from its contract alone.
use mathlib.Core.Path.{◌≡◌, sym, ap, ◌∙◌}
use mathlib.Core.List.{List}
use Prim.Native.Nat.{ℕ, ◌-◌, ◌*◌, ◌^◌, ◌<◌}
use native.Mathlib.Omega.{arith}
use lib.IntN.{ℤ}
use lib.ListN.{length, get_or, take, drop}
use lib.Seq.{get_or-take}
use Rattle.lists.proofs.Front.{front_behind, tab_behind}
use Rattle.zero_skew.specs.Plane.{Sinks, u, v}
use Rattle.plane.specs.Said.Said.{answered}
use Rattle.plane.specs.Sinks.{sinks_at}
use Rattle.embedding.specs.Described.{Level}
use Rattle.orders.specs.Nodes.{value, wire}
use Rattle.orders.proofs.Bounded.{sound}
use Rattle.embedding.proofs.ZeroSkew.{embeds_level}
use Rattle.search.specs.declared.search.Found.{Found}
use Rattle.subsets.specs.Entries.{entry_after}
use Rattle.search.specs.Prepared.{Prepared}
use Rattle.search.specs.Searching.{Searches, joins_found, table_of}
use Rattle.subsets.specs.Subsets.{diam}
use Rattle.subsets.specs.Table.{table_after}
use Rattle.search.proofs.Calls as calls
use Rattle.subsets.proofs.Entries.{entry_is}
use Rattle.subsets.proofs.Filling.{after_length}
use Rattle.search.proofs.Finding.{filled_part, found_held}
use Rattle.subsets.proofs.Finished.{after_steps}
use Rattle.subsets.proofs.Small.{diam_small}

module _ (xs ys : List ℤ) (delays : List ℕ) (budget : ℕ) (table js : List ℕ) (us vs : List ℤ) (ws : List ℕ) (f : Found) (t j : List ℕ) (u' v' : List ℤ) (w : List ℕ)
    (call : Searches xs ys delays budget table js us vs ws (answered f) t j u' v' w) where
  abbrev here : Sinks
  here = sinks_at xs ys delays

  prepared : Prepared xs ys delays table js
  prepared = (calls.ready xs ys delays budget table js us vs ws f t j u' v' w call).prepared

  -- ---- the work table
  -- it is that of the definition after as many steps as are said
  pub table_after_lem : take (2 ^ length xs) t ≡ table_after (diam here) (length xs) f.steps
  table_after_lem =
      filled_part xs ys delays budget (diam here) table t call.writes_table
      ∙ after_steps (diam here) (length xs) budget
      ∙ ap (table_after (diam here) (length xs)) (sym (calls.steps_said xs ys delays budget table js us vs ws f t j u' v' w call))

  pub entry_after_lem : (m : ℕ) → m < 2 ^ length xs → get_or t m 0 ≡ entry_after (diam here) f.steps m
  entry_after_lem m h =
      sym (get_or-take (2 ^ length xs) t m 0 h)
      ∙ ap (λ (l : List ℕ). get_or l m 0) table_after_lem
      ∙ entry_is (diam here) (length xs) f.steps prepared.few 6000000 (diam_small xs ys delays prepared.ranged) (omega arith) m h

  pub table_behind : drop (2 ^ length xs) t ≡ drop (2 ^ length xs) table
  table_behind = front_behind (table_of here budget) table (2 ^ length xs) call.writes_table (after_length (diam here) (length xs) budget)

  -- ---- the pairs, the places and the wires
  pairs_are : take (2 * (length xs - 1)) j ≡ joins_found here budget
  pairs_are =
      found_held xs ys delays budget prepared.ranged prepared.some prepared.few js j call.writes_js

  -- at every budget they are a zero-skew tree over the sinks, joined by the pairs, of the wire that is said
  pub zero_skew_tree : Level here (take (2 * (length xs - 1)) j) u' v' w f.total
  zero_skew_tree =
      rw pairs_are
      (embeds_level xs ys delays (joins_found here budget) us vs ws f.total u' v' w
      (sound prepared.ranged (calls.ordered xs ys delays budget table js us vs ws f t j u' v' w call))
      (record {
        sums = calls.total_is xs ys delays budget table js us vs ws f t j u' v' w call;
        writes_u = call.writes_u;
        writes_v = call.writes_v;
        writes_w = call.writes_w;
      }))

  pub pairs_behind : drop (2 * (length xs - 1)) j ≡ drop (2 * (length xs - 1)) js
  pairs_behind =
      front_behind (joins_found here budget) js (2 * (length xs - 1)) call.writes_js (calls.ordered xs ys delays budget table js us vs ws f t j u' v' w call).valid.count

  pub u_behind : drop (2 * length xs - 1) u' ≡ drop (2 * length xs - 1) us
  u_behind = tab_behind (value here (u here) (joins_found here budget)) (2 * length xs - 1) us call.writes_u

  pub v_behind : drop (2 * length xs - 1) v' ≡ drop (2 * length xs - 1) vs
  v_behind = tab_behind (value here (v here) (joins_found here budget)) (2 * length xs - 1) vs call.writes_v

  pub w_behind : drop (2 * length xs - 1) w ≡ drop (2 * length xs - 1) ws
  w_behind = tab_behind (wire here (joins_found here budget)) (2 * length xs - 1) ws call.writes_w
