-- The lines of what a call built at the front of its buffers: for sinks in lists, and for any sinks.
use mathlib.Core.Path.{◌≡◌, refl}
use mathlib.Core.Bool.{Bool}
use mathlib.Core.List.{List}
use Prim.Native.Nat.{ℕ, ◌-◌, ◌*◌, ◌≤◌}
use native.Mathlib.Omega.{arith}
use lib.IntN.{ℤ, pos}
use lib.ListN.{length, take}
use Rattle.lists.specs.Grow.{front}
use Rattle.lists.proofs.Grow.{length-grow}
use Rattle.lists.proofs.Front.{front_at, front_tall, front_part}
use Rattle.zero_skew.specs.Plane.{Sinks, u, v}
use Rattle.plane.specs.Sinks.{sinks_at}
use Rattle.orders.specs.Nodes.{places_u, places_v, wires, total, value, wire}
use Rattle.orders.specs.Sound.{Ordered}
use Rattle.embedding.specs.Ready.{Embeds}
use Rattle.lines.specs.Lines.{parents, tree_text}
use Rattle.lines.specs.Parts.{Grown}
use Rattle.lines.specs.declared.embedded.Embedded.{Embedded}
use Rattle.printing.specs.Program.{tree_lines}
use Rattle.lines.proofs.Same.{lines_same}

text_fronts : (n t : ℕ) (p : Bool) (js : List ℕ) (us us₀ vs vs₀ : List ℤ) (ws ws₀ : List ℕ) → 2 * n - 1 ≤ length us → 2 * n - 1 ≤ length vs → 2 * n - 1 ≤ length ws
    → tree_text n t p js (front us us₀) (front vs vs₀) (front ws ws₀) ≡ tree_text n t p js us vs ws
unfolding tree_text
text_fronts n t p js us us₀ vs vs₀ ws ws₀ hu hv hw =
    rw (lines_same n (parents n js) (parents n js) (front us us₀) us (front vs vs₀) vs (front ws ws₀) ws (2 * n - 1) record {
      same_p = λ k h e. refl;
      same_u = λ k h. front_at us us₀ k (pos 0) (omega arith);
      same_v = λ k h. front_at vs vs₀ k (pos 0) (omega arith);
      same_w = λ k h. front_at ws ws₀ k 0 (omega arith);
    })

-- the lists of a joining order have an entry for each node
module _ (s : Sinks) (js : List ℕ) where
  long_u : 2 * s.n - 1 ≤ length (places_u s js)
  long_u = omega (arith, length-grow (λ (l : List ℤ). value s (u s) js (length l)) (2 * s.n - 1))

  long_v : 2 * s.n - 1 ≤ length (places_v s js)
  long_v = omega (arith, length-grow (λ (l : List ℤ). value s (v s) js (length l)) (2 * s.n - 1))

  long_w : 2 * s.n - 1 ≤ length (wires s js)
  long_w = omega (arith, length-grow (λ (l : List ℕ). wire s js (length l)) (2 * s.n - 1))

-- so has what embedding leaves in the buffers, and its lines are those of the tree
module _ (xs ys : List ℤ) (delays js : List ℕ) {us vs us' vs' : List ℤ} {ws ws' : List ℕ} {t : ℕ} (e : Embeds xs ys delays js us vs ws t us' vs' ws') where
  abbrev here : Sinks
  here = sinks_at xs ys delays

  pub tall_u : 2 * length xs - 1 ≤ length us'
  tall_u = rw e.writes_u (front_tall (places_u here js) us (2 * here.n - 1) (long_u here js))

  pub tall_v : 2 * length xs - 1 ≤ length vs'
  tall_v = rw e.writes_v (front_tall (places_v here js) vs (2 * here.n - 1) (long_v here js))

  pub tall_w : 2 * length xs - 1 ≤ length ws'
  tall_w = rw e.writes_w (front_tall (wires here js) ws (2 * here.n - 1) (long_w here js))

  pub embedded_text : (p : Bool) → tree_text (length xs) t p js us' vs' ws' ≡ tree_lines (sinks_at xs ys delays) js p
  embedded_text p =
      rw (e.sums, e.writes_u, e.writes_v, e.writes_w)
      (text_fronts here.n _ p js (places_u here js) us (places_v here js) vs (wires here js) ws (long_u here js) (long_v here js) (long_w here js))

-- what a call that builds the tree of the joining order js leaves in the buffers: the order, the places and the wires, and the total
pub record Built (s : Sinks) (js : List ℕ) (t : ℕ) (j j' : List ℕ) (a a' b b' : List ℤ) (w w' : List ℕ) : Type 0 where
  pub ordered : Ordered s.n js
  pub sums : t ≡ total s js
  pub has_j : j' ≡ front js j
  pub has_u : a' ≡ front (places_u s js) a
  pub has_v : b' ≡ front (places_v s js) b
  pub has_w : w' ≡ front (wires s js) w

module _ (s : Sinks) (js : List ℕ) {t : ℕ} {j j' : List ℕ} {a a' b b' : List ℤ} {w w' : List ℕ} (h : Built s js t j j' a a' b b' w w') where
  part : take (2 * (s.n - 1)) j' ≡ js
  part = front_part js j (2 * (s.n - 1)) h.has_j h.ordered.valid.count

  -- a tree that holds what was built has a joining order of the sinks, and a place and a wire for each node
  pub built_grown : (tree : Embedded) → tree.n ≡ s.n → tree.js.now ≡ take (2 * (s.n - 1)) j' → tree.us.now ≡ a' → tree.vs.now ≡ b' → tree.ws.now ≡ w' → Grown tree
  built_grown tree en ej eu ev ew =
      record {
        ordered = rw (en, ej, part) h.ordered;
        tall_u = rw (en, eu, h.has_u) (front_tall (places_u s js) a (2 * s.n - 1) (long_u s js));
        tall_v = rw (en, ev, h.has_v) (front_tall (places_v s js) b (2 * s.n - 1) (long_v s js));
        tall_w = rw (en, ew, h.has_w) (front_tall (wires s js) w (2 * s.n - 1) (long_w s js));
      }

  -- and its lines are those of the tree that embedding makes of js
  pub built_text : (p : Bool) → tree_text s.n t p (take (2 * (s.n - 1)) j') a' b' w' ≡ tree_lines s js p
  built_text p =
      rw (part, h.sums, h.has_u, h.has_v, h.has_w)
      (text_fronts s.n (total s js) p js (places_u s js) a (places_v s js) b (wires s js) w (long_u s js) (long_v s js) (long_w s js))
