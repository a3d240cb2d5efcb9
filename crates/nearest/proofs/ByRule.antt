-- The pairs that joining by least diameter writes follow the rule in words, and no other list of pairs does.
use mathlib.Core.Path.{◌≡◌, refl, sym, ap, ◌∙◌}
use mathlib.Core.List.{List, ◌∷◌}
use Prim.Native.Nat.{ℕ, zero, suc, ◌+◌, ◌-◌, ◌*◌, ◌≤◌, ◌<◌}
use native.Mathlib.Omega.{arith}
use lib.ListN.{get_or, drop, drop_of_length-le}
use lib.Seq.{drop-cons, drop-drop, get_or-drop}
use Rattle.lists.specs.Grow.{up_to}
use Rattle.zero_skew.specs.Plane.{Sinks}
use Rattle.orders.specs.Joins.{left, right}
use Rattle.nearest.specs.Nearest.{chosen, joins, alone, order}
use Rattle.partners.specs.Rule.{Chosen, live_at, measured, ByRule}
use Rattle.partners.proofs.Members.{in_all}
use Rattle.partners.proofs.Packed.{up_below}
use Rattle.nearest.proofs.Running.{running_within}
use Rattle.nearest.proofs.Validity.{order-valid}
use Rattle.partners.proofs.Ruled.{only_chosen}
use Rattle.partners.proofs.Unnamed.{pair_at, Lower, live_begin, all_unnamed}
use Rattle.nearest.proofs.Standing.{sets_at, sets_begin, joins_step, Stands, stands_begin, stands_turn, rule_chooses, joins_next}

-- ---- the order is by the rule: after i pairs, what is left of it is what is joined yet
module _ (s : Sinks) (n : ℕ) (js : List ℕ) (low : Lower n js (n - 1)) (is : js ≡ joins s (n - 1) (alone n) (up_to n)) where
  record Along (i : ℕ) : Type 0 where
    stands : Stands s n js low i
    rest : drop (2 * i) js ≡ joins s (n - 1 - i) (sets_at n js i) (live_at n js i)

  along_begin : Along 0
  along_begin =
      let e : n - 1 - 0 ≡ n - 1 = omega arith in
      record { stands = stands_begin s n js low; rest = is ∙ sym (rw (sets_begin n js, live_begin n js, e)) }

  -- pair i is what is chosen
  writes : (i : ℕ) → i < n - 1 → Along i → chosen s (sets_at n js i) (live_at n js i) ≡ pair_at js i
  writes i h a =
      let p = chosen s (sets_at n js i) (live_at n js i) in
      let e : n - 1 - i ≡ suc (n - 1 - (i + 1)) = omega arith in
      let f = rw e at a.rest ∙ joins_step s (n - 1 - (i + 1)) (sets_at n js i) (live_at n js i) refl refl in
      let z : 2 * i + 0 ≡ 2 * i = omega arith in
      let x : p.low ≡ left js i = sym (ap (λ (l : List ℕ). get_or l 0 0) f) ∙ get_or-drop (2 * i) js 0 0 ∙ ap (λ (m : ℕ). get_or js m 0) z in
      let y : p.high ≡ right js i = sym (ap (λ (l : List ℕ). get_or l 1 0) f) ∙ get_or-drop (2 * i) js 1 0 in
      λ k. record { low = x k; high = y k }

  along_turn : (i : ℕ) → i < n - 1 → Along i → Along (i + 1)
  along_turn i h a =
      let q = writes i h a in
      let w = running_within s a.stands (omega arith) in
      let e : n - 1 - i ≡ suc (n - 1 - (i + 1)) = omega arith in
      let z : 2 * i + 2 ≡ 2 * (i + 1) = omega arith in
      record {
        stands = stands_turn s n js low i h a.stands (rw q at w);
        rest =
            ap (λ (m : ℕ). drop m js) (sym z)
            ∙ sym (drop-drop 2 (2 * i) js)
            ∙ ap (λ (l : List ℕ). drop 2 l) (rw e at a.rest ∙ joins_step s (n - 1 - (i + 1)) (sets_at n js i) (live_at n js i) q a.stands.size)
            ∙ joins_next s n js low (n - 1 - (i + 1)) i h;
      }

  along : (i : ℕ) → i ≤ n - 1 → Along i
  along zero h = along_begin
  along (suc i) h = let e : suc i ≡ i + 1 = omega arith in rw e (along_turn i (omega arith) (along i (omega arith)))

  each_chosen : (i : ℕ) → i < n - 1 → Chosen (measured s n js) (live_at n js i) (pair_at js i)
  each_chosen i h =
      let a = along i (omega arith) in
      rw (← writes i h a) (rule_chooses s n js low i h a.stands)

pub order_by_rule : (s : Sinks) (n : ℕ) → ByRule s n (order s n)
unfolding order joins
order_by_rule s zero = record { count = refl; each = λ i h. absurd (omega arith) }
order_by_rule s (suc m) =
    let v = order-valid s (suc m) (omega arith) in
    record {
      count = v.count;
      each = each_chosen s (suc m) (order s (suc m)) (λ i h. (v.low_left i h, v.low_right i h)) refl;
    }

-- ---- and no other list of pairs is
module _ (s : Sinks) (n : ℕ) (js : List ℕ) (r : ByRule s n js) where
  lower : Lower n js (n - 1)
  lower i h =
      let b = all_unnamed js (2 * i) (up_below (n + i)) in
      (in_all (r.each i h).low_live b, in_all (r.each i h).high_live b)

  stands : (i : ℕ) → i ≤ n - 1 → Stands s n js lower i
  stands zero h = stands_begin s n js lower
  stands (suc i) h =
      let e : suc i ≡ i + 1 = omega arith in
      let c = r.each i (omega arith) in
      rw e (stands_turn s n js lower i (omega arith) (stands i (omega arith)) (record { low_in = c.low_live; high_in = c.high_live; up = c.up }))

  is_chosen : (i : ℕ) → i < n - 1 → chosen s (sets_at n js i) (live_at n js i) ≡ pair_at js i
  is_chosen i h = only_chosen (measured s n js) (rule_chooses s n js lower i h (stands i (omega arith))) (r.each i h)

  rest_is : (k i : ℕ) → i + k ≡ n - 1 → joins s k (sets_at n js i) (live_at n js i) ≡ drop (2 * i) js
  unfolding joins
  rest_is zero i e = sym (drop_of_length-le js {i = 2 * i} (omega (arith, r.count)))
  rest_is (suc k) i e =
      let f : 2 * i + 1 ≡ suc (2 * i) = omega arith in
      let g : 2 * (i + 1) ≡ suc (suc (2 * i)) = omega arith in
      joins_step s k (sets_at n js i) (live_at n js i) (is_chosen i (omega arith)) (stands i (omega arith)).size
      ∙ rw (joins_next s n js lower k i (omega arith), rest_is k (i + 1) (omega arith), f, g)
      (sym (drop-cons js (2 * i) 0 (omega (arith, r.count)) ∙ ap (λ (l : List ℕ). left js i ∷ l) (drop-cons js (suc (2 * i)) 0 (omega (arith, r.count)))))

pub only_by_rule : (s : Sinks) (n : ℕ) (js : List ℕ) → ByRule s n js → js ≡ order s n
unfolding order
only_by_rule s n js r = sym (rest_is s n js r (n - 1) 0 (omega arith)) ∙ rw (sets_begin n js, live_begin n js)
