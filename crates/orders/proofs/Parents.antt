-- The parents of a valid joining order: every node but the root has one, with a higher number.
use mathlib.Core.Path.{◌≡◌, refl, sym, ap, ◌∙◌}
use mathlib.Core.Bool.{Bool, true, false}
use mathlib.Core.Logic.{◌⊎◌, inl, inr, ⊎_elim}
use mathlib.Core.List.{List}
use Prim.Native.Nat.{ℕ, ◌+◌, ◌-◌, ◌*◌, ◌/◌, ◌≤◌, ◌<◌}
use native.Mathlib.Omega.{arith}
use borrow.Author.Tests.{eqb-false, eqb-true, ltb-true}
use lib.Dec.{eqb, ltb}
use lib.ListN.{length, get_or, set}
use lib.Seq.{get_or-set_same, get_or-set_other}
use Rattle.lists.specs.First.{first}
use Rattle.lists.proofs.Tests.{or_lt}
use Rattle.lists.proofs.First.{first_hit, any_no}
use Rattle.lists.proofs.Onto.{onto}
use Rattle.orders.specs.Joins.{left, right}
use Rattle.orders.specs.Sound.{Ordered}
use Rattle.orders.specs.Nodes.{parent}
use Rattle.orders.proofs.Accepted.{in_pair}

module _ (n : ℕ) (js : List ℕ) (o : Ordered n js) where
  pub entry_low : (j : ℕ) → j < 2 * (n - 1) → get_or js j 0 < n + j / 2
  entry_low j h =
      in_pair (λ m. get_or js m 0 < n + m / 2) j
      (λ e. let q : get_or js j 0 ≡ left js (j / 2) = ap (λ (m : ℕ). get_or js m 0) e in omega (arith, o.valid.low_left (j / 2) (omega arith)))
      (λ e. let q : get_or js j 0 ≡ right js (j / 2) = ap (λ (m : ℕ). get_or js m 0) e in omega (arith, o.valid.low_right (j / 2) (omega arith)))

  -- the flags and the list of parents, for 1,023 nodes, have a place for each node that an entry names
  pub entry_small : (j : ℕ) {k : ℕ} → k ≡ get_or js j 0 → j < length js → k < 1023
  entry_small j e h = omega (arith, o.few, o.valid.count, entry_low j (omega (arith, o.valid.count)))

  -- the entry that names node k
  abbrev at : ℕ → ℕ
  at k = first (λ j. eqb (get_or js j 0) k) 0 (length js)

  -- "every node but the root is named exactly once"
  record Named (k : ℕ) : Type 0 where
    within : at k < 2 * (n - 1)
    names : get_or js (at k) 0 ≡ k

  is_named : (k : ℕ) → k < 2 * n - 2 → Named k
  is_named k h = go (ltb (at k) (length js)) refl
    where
      go : (t : Bool) → ltb (at k) (length js) ≡ t → Named k
      go true e =
          let l = ltb-true (at k) (length js) e in
          record {
            within = omega (arith, o.valid.count);
            names = eqb-true (get_or js (at k) 0) k (first_hit (λ j. eqb (get_or js j 0) k) 0 (length js) (omega arith));
          }
      go false e =
          absurd (onto (2 * n - 2) (λ j. get_or js j 0)
          (λ j l. omega (arith, entry_low j (omega arith)))
          (λ i j l u. o.valid.once i j l (omega arith))
          k h
          (λ j l. eqb-false (get_or js j 0) k (any_no (λ m. eqb (get_or js m 0) k) (length js) e j (omega (arith, o.valid.count)))))

  -- a parent is a join, with a higher number
  pub parent_is_join : (k : ℕ) → n ≤ parent n js k
  unfolding parent
  parent_is_join k = omega arith

  pub parent_above : (k : ℕ) → k < 2 * n - 2 → (k < parent n js k) × (parent n js k ≤ 2 * n - 2)
  unfolding parent
  parent_above k h =
      let r = is_named k h in
      (omega (arith, entry_low (at k) r.within, r.names), omega (arith, r.within))

  -- a node is one of the two that its parent's pair names
  pub parent-names : (k : ℕ) → k < 2 * n - 2 → (left js (parent n js k - n) ≡ k) ⊎ (right js (parent n js k - n) ≡ k)
  unfolding parent
  parent-names k h =
      let r = is_named k h in
      let q : parent n js k - n ≡ at k / 2 = omega arith in
      in_pair (λ m. (left js (parent n js k - n) ≡ k) ⊎ (right js (parent n js k - n) ≡ k)) (at k)
      (λ e. inl (rw q (ap (λ (m : ℕ). get_or js m 0) (sym e) ∙ r.names)))
      (λ e. inr (rw q (ap (λ (m : ℕ). get_or js m 0) (sym e) ∙ r.names)))

  -- and the pair that names a node makes its parent
  one_entry : (i j : ℕ) → i < 2 * (n - 1) → j < 2 * (n - 1) → get_or js i 0 ≡ get_or js j 0 → i ≡ j
  one_entry i j a b e =
      ⊎_elim
      (λ p. absurd (o.valid.once i j p b e))
      (λ p. ⊎_elim (λ q. absurd (o.valid.once j i q a (sym e))) (λ q. omega arith) (or_lt j i))
      (or_lt i j)

  parent_of : (j : ℕ) → j < 2 * (n - 1) → parent n js (get_or js j 0) ≡ n + j / 2
  unfolding parent
  parent_of j h =
      let r = is_named (get_or js j 0) (omega (arith, entry_low j h)) in
      ap (λ (m : ℕ). n + m / 2) (one_entry (at (get_or js j 0)) j r.within h r.names)

  pub parent_left : (i : ℕ) → i < n - 1 → parent n js (left js i) ≡ n + i
  parent_left i h = parent_of (2 * i) (omega arith) ∙ omega arith

  pub parent_right : (i : ℕ) → i < n - 1 → parent n js (right js i) ≡ n + i
  parent_right i h = parent_of (2 * i + 1) (omega arith) ∙ omega arith

  -- ---- in an array: the parents that the first j entries tell
  pub parents_more : (ps : List ℕ) (j k v : ℕ) → j < 2 * (n - 1) → k ≡ get_or js j 0 → k < length ps → v ≡ n + j / 2
      → ((i : ℕ) → i < j → get_or ps (get_or js i 0) 0 ≡ n + i / 2) → (i : ℕ) → i < j + 1 → get_or (set ps k v) (get_or js i 0) 0 ≡ n + i / 2
  parents_more ps j k v h e g q all i l = go (eqb i j) refl
    where
      go : (t : Bool) → eqb i j ≡ t → get_or (set ps k v) (get_or js i 0) 0 ≡ n + i / 2
      go true r = let s = eqb-true i j r in rw (s, ← e, get_or-set_same ps k v 0 g) q
      go false r =
          let s : i < j = omega (arith, eqb-false i j r) in
          get_or-set_other ps k (get_or js i 0) v 0 (λ d. o.valid.once i j s h (d ∙ e)) ∙ all i s

  pub parents_done : (ps : List ℕ) → ((i : ℕ) → i < 2 * (n - 1) → get_or ps (get_or js i 0) 0 ≡ n + i / 2) → (k : ℕ) → k < 2 * n - 2 → get_or ps k 0 ≡ parent n js k
  unfolding parent
  parents_done ps all k h =
      let r = is_named k h in
      ap (λ (m : ℕ). get_or ps m 0) (sym r.names) ∙ all (at k) r.within
