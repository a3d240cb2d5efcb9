-- What `embed_nearest` gives is what `embed` gives for the order of least diameter: a zero-skew tree, and no tree with its joining order has less wire.
use mathlib.Core.Path.{◌≡◌, ap}
use mathlib.Core.List.{List}
use Prim.Native.Nat.{ℕ, ◌-◌, ◌*◌}
use lib.IntN.{ℤ}
use lib.ListN.{length}
use Rattle.plane.specs.Said.Said.{answered}
use Rattle.plane.specs.Sinks.{sinks_at}
use Rattle.std.specs.Prelude.{Ok}
use Rattle.orders.specs.Nodes.{total}
use Rattle.orders.specs.Joins.{check_order}
use Rattle.embedding.specs.Embedding.{check_room, answer}
use Rattle.plane.specs.Refusals.{and_then}
use Rattle.embedding.specs.Permitted.{Permitted}
use Rattle.embedding.specs.Described.{Level}
use Rattle.plane.proofs.Checks.{both_pass}
use Rattle.plane.proofs.Answered.{after_answered}
use Rattle.embedding.proofs.ZeroSkew.{accepted_level}
use Rattle.nearest.specs.Calls.{order_at, check_nearest, tree_answer, Embedding}
use Rattle.nearest.proofs.Passing.{ready, sinks_fine}
use Rattle.nearest.proofs.Validity.{order_accepted}

module _ {xs ys : List ℤ} {delays js : List ℕ} {us vs : List ℤ} {ws : List ℕ} {t : ℕ} {js' : List ℕ} {us' vs' : List ℤ} {ws' : List ℕ} where
  -- what an answer with a tree says: both checks are passed, and which total it is
  pub tree_said_lem : Embedding xs ys delays js us vs ws (answered t) js' us' vs' ws'
      → (check_nearest xs ys delays (length js) ≡ Ok tt) × (check_room (2 * length xs - 1) (length us) (length vs) (length ws) ≡ Ok tt) × (t ≡ total (sinks_at xs ys delays) (order_at xs ys delays))
  unfolding tree_answer
  tree_said_lem p =
      let rooms = check_room (2 * length xs - 1) (length us) (length vs) (length ws) in
      let (a, q) = after_answered (and_then (check_nearest xs ys delays (length js)) rooms) (total (sinks_at xs ys delays) (order_at xs ys delays)) t p.answers in
      let (b, f) = both_pass (check_nearest xs ys delays (length js)) rooms a in
      (b, f, q)

  pub as_embed : Embedding xs ys delays js us vs ws (answered t) js' us' vs' ws' → Permitted xs ys delays (order_at xs ys delays) us vs ws (answered t) us' vs' ws'
  unfolding answer check_order
  as_embed p =
      let (b, f, q) = tree_said_lem p in
      record {
        answers = rw (sinks_fine xs ys delays (length js) b, order_accepted (sinks_at xs ys delays) (length xs) (ready xs ys delays js b).some, f) (ap answered q);
        writes_u = p.writes_u;
        writes_v = p.writes_v;
        writes_w = p.writes_w;
      }

  pub nearest_level : Embedding xs ys delays js us vs ws (answered t) js' us' vs' ws' → Level (sinks_at xs ys delays) (order_at xs ys delays) us' vs' ws' t
  nearest_level p = accepted_level xs ys delays (order_at xs ys delays) us vs ws t us' vs' ws' (as_embed p)
