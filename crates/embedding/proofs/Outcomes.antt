-- Two permitted outcomes of a call of `embed` coincide.
use mathlib.Core.Path.{◌≡◌, sym, ap, ◌∙◌}
use mathlib.Core.List.{List}
use Prim.Native.Nat.{ℕ}
use lib.IntN.{ℤ}
use Rattle.lists.specs.Grow.{front}
use Rattle.plane.specs.Said.{Said, told, if_answered}
use Rattle.plane.proofs.Answered.{told_once}
use Rattle.plane.specs.Sinks.{sinks_at}
use Rattle.std.specs.Prelude.{Result}
use Rattle.plane.specs.declared.refusal.Refusal.{Refusal}
use Rattle.orders.specs.Nodes.{places_u, places_v, wires}
use Rattle.embedding.specs.Permitted.{Permitted}

pub record Same (r r' : Result ℕ Refusal) (us us' vs vs' : List ℤ) (ws ws' : List ℕ) : Type 0 where
  pub said : r ≡ r'
  pub us_same : us ≡ us'
  pub vs_same : vs ≡ vs'
  pub ws_same : ws ≡ ws'

pub only_embed : (xs ys : List ℤ) (delays js : List ℕ) (us vs : List ℤ) (ws : List ℕ) {r r' : Result ℕ Refusal} {u u' v v' : List ℤ} {w w' : List ℕ}
    → Permitted xs ys delays js us vs ws (told r) u v w → Permitted xs ys delays js us vs ws (told r') u' v' w' → Same r r' u u' v v' w w'
only_embed xs ys delays js us vs ws {r} {r'} p q =
    let e : told r ≡ told r' = p.answers ∙ sym q.answers in
    record {
      said = told_once r r' e;
      us_same = p.writes_u ∙ ap (λ (a : Said ℕ). front (if_answered a (places_u (sinks_at xs ys delays) js)) us) e ∙ sym q.writes_u;
      vs_same = p.writes_v ∙ ap (λ (a : Said ℕ). front (if_answered a (places_v (sinks_at xs ys delays) js)) vs) e ∙ sym q.writes_v;
      ws_same = p.writes_w ∙ ap (λ (a : Said ℕ). front (if_answered a (wires (sinks_at xs ys delays) js)) ws) e ∙ sym q.writes_w;
    }
