-- Where a list of pairs stands after i of them: the sinks below each node and the live nodes are those of the definition of joining.
use mathlib.Core.Path.{◌≡◌, sym, ap, ◌∙◌}
use mathlib.Core.List.{List, [], ◌∷◌}
use Prim.Native.Nat.{ℕ, suc, ◌+◌, ◌-◌, ◌<◌}
use native.Mathlib.Omega.{arith}
use lib.ListN.{length}
use Rattle.lists.specs.Grow.{tab}
use Rattle.lists.proofs.Grow.{tab_at, tab_same, get_d_tab}
use Rattle.zero_skew.specs.Plane.{Sinks}
use Rattle.orders.specs.Joins.{left, right}
use Rattle.orders.specs.Nodes.{below}
use Rattle.orders.proofs.Orders.{below_one, below_both}
use Rattle.partners.specs.declared.pair.Pair.{Pair}
use Rattle.partners.specs.Closest.{pair, after}
use Rattle.nearest.specs.Nearest.{union, chosen, joins, alone}
use Rattle.partners.specs.Rule.{Leads, Chosen, live_at, measured}
use Rattle.partners.specs.Live.{Below}
use Rattle.partners.proofs.Members.{in_all}
use Rattle.partners.proofs.Pairs.{Within}
use Rattle.nearest.proofs.Running.{Running, more, running_begin, running_turn, running_chosen}
use Rattle.partners.proofs.Unnamed.{pair_at, Lower, live_begin, live_turn}

-- the sinks below each of the nodes there are
abbrev pub sets_at : ℕ → List ℕ → ℕ → List (List ℕ)
sets_at n js i = tab (below n js) (n + i)

-- ---- the sinks below each node
pub sets_begin : (n : ℕ) (js : List ℕ) → sets_at n js 0 ≡ alone n
sets_begin n js =
    let e : n + 0 ≡ n = omega arith in
    rw e (tab_same (below n js) (λ k. k ∷ []) n (below_one n js))

sets_turn : (n : ℕ) (js : List ℕ) (i : ℕ) → i < n - 1 → Lower n js (i + 1) → sets_at n js (i + 1) ≡ more (sets_at n js i) (pair_at js i)
sets_turn n js i h low =
    let (l, r) = low i (omega arith) in
    let e : n + (i + 1) ≡ suc (n + i) = omega arith in
    rw (e, tab_at (below n js) (n + i), below_both n js i h l r, get_d_tab (below n js) (n + i) (left js i) [] l, get_d_tab (below n js) (n + i) (right js i) [] r)

union_is : (s : Sinks) (n : ℕ) (js : List ℕ) (i a b : ℕ) → a < n + i → b < n + i → union s (sets_at n js i) a b ≡ measured s n js a b
union_is s n js i a b h g = rw (get_d_tab (below n js) (n + i) a [] h, get_d_tab (below n js) (n + i) b [] g)

-- ---- the rule looks at live nodes alone: measures that agree below m choose the same
module _ (d e : ℕ → ℕ → ℕ) (m : ℕ) (same : (a b : ℕ) → a < m → b < m → d a b ≡ e a b) where
  leads_other : {p q : Pair} → d p.low p.high ≡ e p.low p.high → d q.low q.high ≡ e q.low q.high → Leads d p q → Leads e p q
  leads_other x y l =
      record {
        nearer = omega (arith, l.nearer);
        then_low = λ f. l.then_low (x ∙ f ∙ sym y);
        then_high = λ f g. l.then_high (x ∙ f ∙ sym y) g;
      }

  chosen_other : {live : List ℕ} {p : Pair} → Below m live → Chosen d live p → Chosen e live p
  chosen_other {p = p} low c =
      record {
        low_live = c.low_live;
        high_live = c.high_live;
        up = c.up;
        leads = λ a b i j l.
            leads_other {p = p} {q = pair a b}
            (same p.low p.high (in_all c.low_live low) (in_all c.high_live low))
            (same a b (in_all i low) (in_all j low))
            (c.leads a b i j l);
      }

-- a join, where it is known which pair is chosen
pub joins_step : (s : Sinks) (k : ℕ) (sets : List (List ℕ)) (live : List ℕ) {p : Pair} {m : ℕ} → chosen s sets live ≡ p → length sets ≡ m
    → joins s (suc k) sets live ≡ p.low ∷ p.high ∷ joins s k (more sets p) (after p m live)
unfolding joins
joins_step s k sets live {p} {m} e f =
    ap (λ (q : Pair). q.low ∷ q.high ∷ joins s k (more sets q) (after q (length sets) live)) e
    ∙ ap (λ (o : ℕ). p.low ∷ p.high ∷ joins s k (more sets p) (after p o live)) f

-- ---- from join to join, for pairs that name lower nodes
module _ (s : Sinks) (n : ℕ) (js : List ℕ) (low : Lower n js (n - 1)) where
  abbrev pub Stands : ℕ → Type 0
  Stands i = Running n i (sets_at n js i) (live_at n js i)

  pub stands_begin : Stands 0
  stands_begin = rw (sets_begin n js, live_begin n js) (running_begin n)

  so_far : (i : ℕ) → i < n - 1 → Lower n js (i + 1)
  so_far i h j l = low j (omega arith)

  pub stands_turn : (i : ℕ) → i < n - 1 → Stands i → Within (live_at n js i) (pair_at js i) → Stands (i + 1)
  stands_turn i h r w = rw (sets_turn n js i h (so_far i h), live_turn n js i (so_far i h)) (running_turn (pair_at js i) r w)

  -- what the definition chooses, the rule does
  pub rule_chooses : (i : ℕ) → i < n - 1 → Stands i → Chosen (measured s n js) (live_at n js i) (chosen s (sets_at n js i) (live_at n js i))
  rule_chooses i h r =
      chosen_other (union s (sets_at n js i)) (measured s n js) (n + i) (union_is s n js i) r.packed.low (running_chosen s r (omega arith))

  pub joins_next : (k i : ℕ) → i < n - 1 → joins s k (more (sets_at n js i) (pair_at js i)) (after (pair_at js i) (n + i) (live_at n js i)) ≡ joins s k (sets_at n js (i + 1)) (live_at n js (i + 1))
  joins_next k i h = rw (sets_turn n js i h (so_far i h), live_turn n js i (so_far i h))
