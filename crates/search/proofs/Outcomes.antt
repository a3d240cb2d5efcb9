-- Two permitted outcomes of a call of `search` coincide; and from F(n) on the budget does not matter.
use mathlib.Core.Path.{◌≡◌, refl, sym, ap, ◌∙◌}
use mathlib.Core.List.{List}
use Prim.Native.Nat.{ℕ, ◌≤◌}
use lib.IntN.{ℤ}
use lib.ListN.{length}
use Rattle.lists.specs.Grow.{front}
use Rattle.plane.specs.Said.{Said, refused_by, after, told, if_answered}
use Rattle.plane.proofs.Answered.{told_once}
use Rattle.plane.specs.Sinks.{sinks_at}
use Rattle.plane.specs.Refusals.{Checked}
use Rattle.std.specs.Prelude.{Result, Ok, Err}
use Rattle.plane.specs.declared.refusal.Refusal.{Refusal}
use Rattle.orders.specs.Nodes.{places_u, places_v, wires}
use Rattle.search.specs.declared.search.Found.{Found}
use Rattle.subsets.specs.Best.{step_count}
use Rattle.search.specs.Rooms.{check_search}
use Rattle.search.specs.Searching.{Searches, found, joins_found, table_of}
use Rattle.search.proofs.Promises.{found_stands, joins_stand, table_stands}

-- the answers, and the buffers after the calls
pub record Same (r r' : Result Found Refusal) (t t' j j' : List ℕ) (u u' v v' : List ℤ) (w w' : List ℕ) : Type 0 where
  pub said : r ≡ r'
  pub table_same : t ≡ t'
  pub js_same : j ≡ j'
  pub us_same : u ≡ u'
  pub vs_same : v ≡ v'
  pub ws_same : w ≡ w'

module _ (xs ys : List ℤ) (delays table js : List ℕ) (us vs : List ℤ) (ws : List ℕ) where
  pub only_search : (budget : ℕ) {r r' : Result Found Refusal} {t t' j j' : List ℕ} {u u' v v' : List ℤ} {w w' : List ℕ}
      → Searches xs ys delays budget table js us vs ws (told r) t j u v w → Searches xs ys delays budget table js us vs ws (told r') t' j' u' v' w' → Same r r' t t' j j' u u' v v' w w'
  only_search budget {r} {r'} {t} {t'} {j} {j'} {u} {u'} {v} {v'} {w} {w'} p q =
      let s = sinks_at xs ys delays in
      let e : told r ≡ told r' = p.answers ∙ sym q.answers in
      record {
        said = told_once r r' e;
        table_same = p.writes_table ∙ ap (λ (a : Said Found). front (if_answered a (table_of s budget)) table) e ∙ sym q.writes_table;
        js_same = p.writes_js ∙ ap (λ (a : Said Found). front (if_answered a (joins_found s budget)) js) e ∙ sym q.writes_js;
        us_same = p.writes_u ∙ ap (λ (a : Said Found). front (if_answered a (places_u s (joins_found s budget))) us) e ∙ sym q.writes_u;
        vs_same = p.writes_v ∙ ap (λ (a : Said Found). front (if_answered a (places_v s (joins_found s budget))) vs) e ∙ sym q.writes_v;
        ws_same = p.writes_w ∙ ap (λ (a : Said Found). front (if_answered a (wires s (joins_found s budget))) ws) e ∙ sym q.writes_w;
      }

  module _ (b c : ℕ) (enough : step_count (length xs) ≤ b) (enough' : step_count (length xs) ≤ c) where
    -- what is permitted at one such budget is permitted at the other
    moved : {r : Said Found} {t j : List ℕ} {u v : List ℤ} {w : List ℕ} → Searches xs ys delays c table js us vs ws r t j u v w → Searches xs ys delays b table js us vs ws r t j u v w
    moved {r} {t} {j} {u} {v} {w} p = go (check_search xs ys delays (length table) (length js) (length us) (length vs) (length ws)) refl
      where
        go : (k : Checked) → check_search xs ys delays (length table) (length js) (length us) (length vs) (length ws) ≡ k → Searches xs ys delays b table js us vs ws r t j u v w
        go (Ok tt) e =
            let s = sinks_at xs ys delays in
            let ej : joins_found s c ≡ joins_found s b = joins_stand s c b enough' enough in
            record {
              answers = p.answers ∙ ap (after (check_search xs ys delays (length table) (length js) (length us) (length vs) (length ws))) (found_stands s c b enough' enough);
              writes_table = p.writes_table ∙ ap (λ (l : List ℕ). front (if_answered r l) table) (table_stands s c b enough' enough);
              writes_js = p.writes_js ∙ ap (λ (l : List ℕ). front (if_answered r l) js) ej;
              writes_u = p.writes_u ∙ ap (λ (l : List ℕ). front (if_answered r (places_u s l)) us) ej;
              writes_v = p.writes_v ∙ ap (λ (l : List ℕ). front (if_answered r (places_v s l)) vs) ej;
              writes_w = p.writes_w ∙ ap (λ (l : List ℕ). front (if_answered r (wires s l)) ws) ej;
            }
        go (Err x) e =
            let s = sinks_at xs ys delays in
            let er : r ≡ refused_by x = p.answers ∙ ap (λ (k : Checked). after k (found s c)) e in
            record {
              answers = er ∙ sym (ap (λ (k : Checked). after k (found s b)) e);
              writes_table = p.writes_table ∙ ap (λ (a : Said Found). front (if_answered a (table_of s c)) table) er ∙ sym (ap (λ (a : Said Found). front (if_answered a (table_of s b)) table) er);
              writes_js = p.writes_js ∙ ap (λ (a : Said Found). front (if_answered a (joins_found s c)) js) er ∙ sym (ap (λ (a : Said Found). front (if_answered a (joins_found s b)) js) er);
              writes_u = p.writes_u ∙ ap (λ (a : Said Found). front (if_answered a (places_u s (joins_found s c))) us) er ∙ sym (ap (λ (a : Said Found). front (if_answered a (places_u s (joins_found s b))) us) er);
              writes_v = p.writes_v ∙ ap (λ (a : Said Found). front (if_answered a (places_v s (joins_found s c))) vs) er ∙ sym (ap (λ (a : Said Found). front (if_answered a (places_v s (joins_found s b))) vs) er);
              writes_w = p.writes_w ∙ ap (λ (a : Said Found). front (if_answered a (wires s (joins_found s c))) ws) er ∙ sym (ap (λ (a : Said Found). front (if_answered a (wires s (joins_found s b))) ws) er);
            }

  -- from F(n) on no byte of any buffer or of the answer changes
  pub same_from : (b c : ℕ) → step_count (length xs) ≤ b → step_count (length xs) ≤ c → {r r' : Result Found Refusal} {t t' j j' : List ℕ} {u u' v v' : List ℤ} {w w' : List ℕ}
      → Searches xs ys delays b table js us vs ws (told r) t j u v w → Searches xs ys delays c table js us vs ws (told r') t' j' u' v' w' → Same r r' t t' j j' u u' v v' w w'
  same_from b c h k p q = only_search b p (moved b c h k q)
