-- Two permitted outcomes of a call coincide.
use mathlib.Core.Path.{◌≡◌, sym, ap, ◌∙◌}
use mathlib.Core.List.{List}
use Prim.Native.Nat.{ℕ}
use lib.IntN.{ℤ}
use Rattle.lists.specs.Grow.{front}
use Rattle.plane.specs.Said.{Said, told, if_answered}
use Rattle.plane.specs.Sinks.{sinks_at}
use Rattle.plane.proofs.Answered.{told_once}
use Rattle.orders.specs.Nodes.{places_u, places_v, wires}
use Rattle.std.specs.Prelude.{Result}
use Rattle.plane.specs.declared.refusal.Refusal.{Refusal}
use Rattle.plane.specs.Refusals.{Checked}
use Rattle.embedding.proofs.Outcomes.{Same}
use Rattle.nearest.specs.Calls.{order_at, Joining, Embedding}

pub only_join_nearest : (xs ys : List ℤ) (delays js : List ℕ) {r r' : Checked} {j j' : List ℕ} → Joining xs ys delays js (told r) j → Joining xs ys delays js (told r') j' → (r ≡ r') × (j ≡ j')
only_join_nearest xs ys delays js {r} {r'} p q =
    let e : told r ≡ told r' = p.answers ∙ sym q.answers in
    (told_once r r' e, p.writes ∙ ap (λ (a : Said (Unit {0})). front (if_answered a (order_at xs ys delays)) js) e ∙ sym q.writes)

pub only_embed_nearest : (xs ys : List ℤ) (delays js : List ℕ) (us vs : List ℤ) (ws : List ℕ) {r r' : Result ℕ Refusal} {j j' : List ℕ} {u u' v v' : List ℤ} {w w' : List ℕ}
    → Embedding xs ys delays js us vs ws (told r) j u v w → Embedding xs ys delays js us vs ws (told r') j' u' v' w' → Same r r' u u' v v' w w' × (j ≡ j')
only_embed_nearest xs ys delays js us vs ws {r} {r'} p q =
    let e : told r ≡ told r' = p.answers ∙ sym q.answers in
    let s = sinks_at xs ys delays in
    let o = order_at xs ys delays in (
      record {
        said = told_once r r' e;
        us_same = p.writes_u ∙ ap (λ (a : Said ℕ). front (if_answered a (places_u s o)) us) e ∙ sym q.writes_u;
        vs_same = p.writes_v ∙ ap (λ (a : Said ℕ). front (if_answered a (places_v s o)) vs) e ∙ sym q.writes_v;
        ws_same = p.writes_w ∙ ap (λ (a : Said ℕ). front (if_answered a (wires s o)) ws) e ∙ sym q.writes_w;
      },
      p.writes_j ∙ ap (λ (a : Said ℕ). front (if_answered a o) js) e ∙ sym q.writes_j,
    )
