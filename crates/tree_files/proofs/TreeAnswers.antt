-- The outcomes of the check of tags 4 and 5, and the lists that embedding gives.
use mathlib.Core.Path.{◌≡◌, refl, ap}
use mathlib.Core.Bool.{true, false}
use mathlib.Core.List.{List}
use Prim.Native.Nat.{ℕ, ◌-◌, ◌*◌, ◌≤◌, ◌<◌}
use borrow.Author.Tests.{lt-ltb, le-ltb, eq-eqb, ne_eqb}
use Rattle.std.specs.Prelude.{Ok, Err}
use lib.IntN.{ℤ, pos, negsuc}
use lib.ListN.{length}
use Rattle.lists.specs.First.{first}
use Rattle.lists.proofs.Grow.{length-grow}
use Rattle.measures.specs.Range.{equal}
use Rattle.plane.specs.Sinks.{sinks_at, prompt}
use Rattle.plane.specs.declared.refusal.Refusal.TheVariants.{Tags, Unlike}
use Rattle.orders.specs.Nodes.{places_u, places_v, wires}
use Rattle.tree_files.specs.Trees.{unlike, check_nodes}

-- whole numbers that are one, and two
pub equal_self : (a : ℤ) → equal a a ≡ true
equal_self (pos a) = eq-eqb a a refl
equal_self (negsuc a) = eq-eqb a a refl

pub equal_not : (a b : ℤ) → (a ≡ b → ⊥) → equal a b ≡ false
equal_not (pos a) (pos b) h = ne_eqb a b (λ e. h (ap pos e))
equal_not (pos a) (negsuc b) h = refl
equal_not (negsuc a) (pos b) h = refl
equal_not (negsuc a) (negsuc b) h = ne_eqb a b (λ e. h (ap negsuc e))

module _ (us vs : List ℤ) (ws : List ℕ) (fu fv : List ℤ) (fw : List ℕ) where
  pub other_places : (length fu ≡ length us → ⊥) → Err Tags ≡ check_nodes us vs ws fu fv fw
  unfolding check_nodes
  other_places h = simp (ne_eqb (length fu) (length us) h)

  module _ (p : length fu ≡ length us) where
    pub other_wires : (length fw ≡ length us → ⊥) → Err Tags ≡ check_nodes us vs ws fu fv fw
    unfolding check_nodes
    other_wires h = simp (eq-eqb (length fu) (length us) p, ne_eqb (length fw) (length us) h)

    module _ (q : length fw ≡ length us) {k : ℕ} (e : k ≡ first (unlike us vs ws fu fv fw) 0 (length us)) where
      pub node_unlike : k < length us → Err (Unlike k) ≡ check_nodes us vs ws fu fv fw
      unfolding check_nodes
      node_unlike h =
          rw e (simp (eq-eqb (length fu) (length us) p, eq-eqb (length fw) (length us) q, lt-ltb (first (unlike us vs ws fu fv fw) 0 (length us)) (length us) (rw e at h)))

      pub nodes-alike : length us ≤ k → Ok tt ≡ check_nodes us vs ws fu fv fw
      unfolding check_nodes
      nodes-alike h =
          simp (eq-eqb (length fu) (length us) p, eq-eqb (length fw) (length us) q, le-ltb (first (unlike us vs ws fu fv fw) 0 (length us)) (length us) (rw e at h))

module _ (xs ys : List ℤ) (js : List ℕ) where
  pub length_u : length (places_u (sinks_at xs ys (prompt xs)) js) ≡ 2 * length xs - 1
  length_u = length-grow _ (2 * length xs - 1)

  pub length_v : length (places_v (sinks_at xs ys (prompt xs)) js) ≡ 2 * length xs - 1
  length_v = length-grow _ (2 * length xs - 1)

  pub length_wires : length (wires (sinks_at xs ys (prompt xs)) js) ≡ 2 * length xs - 1
  length_wires = length-grow _ (2 * length xs - 1)
