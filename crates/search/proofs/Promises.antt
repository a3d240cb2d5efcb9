-- What the search promises beyond its equations, about the same definitions: a zero-skew tree at every budget, no more wire from a larger one, nothing changed from F(n) on, proven exactly
-- from F(n) on, and NO zero-skew tree shorter than a proven one.
use mathlib.Core.Path.{◌≡◌, refl, sym, ap, subst, ◌∙◌}
use mathlib.Core.Logic.{◌⊎◌, inl, inr, ⊎_elim}
use mathlib.Core.Bool.{true}
use mathlib.Core.List.{List}
use Prim.Native.Nat.{ℕ, ◌+◌, ◌-◌, ◌*◌, ◌^◌, ◌≤◌, ◌<◌, min}
use native.Mathlib.Omega.{arith}
use lib.IntN.{ℤ}
use lib.ListN.{length, take, length-take}
use lib.Pow.{pow_mono}
use borrow.Author.Tests.{le-leb, leb-true}
use Rattle.lists.specs.Grow.{sum_to, tab}
use Rattle.lists.proofs.Tests.{or_lt}
use Rattle.zero_skew.specs.Plane.{Sinks}
use Rattle.zero_skew.specs.Box.{diameter}
use Rattle.zero_skew.specs.Tree.{Tree, wire, count, ZeroSkew}
use Rattle.zero_skew.specs.Order.{Order, sinks_of, Over, halves}
use Rattle.zero_skew.proofs.Lemma1.{diam_within}
use Rattle.zero_skew.proofs.Count.{count_in, in_count}
use Rattle.plane.specs.Sinks.{sinks_at, Ranged}
use Rattle.orders.specs.Nodes.{node, total}
use Rattle.orders.specs.Sound.{Ordered}
use Rattle.orders.proofs.Joined.{halves_are, over}
use Rattle.subsets.specs.Best.{best, step_count}
use Rattle.subsets.specs.Entries.{entry_after}
use Rattle.subsets.specs.Kept.{kept_order, pairs_of}
use Rattle.search.specs.Searching.{found, joins_found, table_of}
use Rattle.subsets.specs.Subsets.{diam}
use Rattle.subsets.specs.Table.{steps}
use Rattle.subsets.proofs.Bits.{bit}
use Rattle.subsets.proofs.Counting.{steps_count}
use Rattle.subsets.proofs.Entries.{table_entries}
use Rattle.search.proofs.Finding.{all_count, all_over, found_ordered, joins_all, joins_few}
use Rattle.subsets.proofs.Finished.{Finished, done_all, finished}
use Rattle.subsets.proofs.KeptJoins.{pairs-total}
use Rattle.subsets.proofs.Masks.{diam_listed, listed_diam, mask_bit, over_all, over_once}
use Rattle.subsets.proofs.NoneShorter.{kept_sums, least_of_all, none_shorter}
use Rattle.subsets.proofs.Recursion.{holds_best}
use Rattle.subsets.proofs.Small.{diam_small}

-- ---- the steps reported are those of the definition that the table is the result of
pub steps_taken : (s : Sinks) (b : ℕ) → (found s b).steps ≡ length (take b (steps s.n))
unfolding found
steps_taken s b = ap (min b) (sym (steps_count s.n)) ∙ sym (length-take b (steps s.n))

-- ---- from F(n) on nothing changes
pub table_stands : (s : Sinks) (b c : ℕ) → step_count s.n ≤ b → step_count s.n ≤ c → table_of s b ≡ table_of s c
table_stands s b c h k = done_all (diam s) s.n b h ∙ sym (done_all (diam s) s.n c k)

pub joins_stand : (s : Sinks) (b c : ℕ) → step_count s.n ≤ b → step_count s.n ≤ c → joins_found s b ≡ joins_found s c
joins_stand s b c h k =
    joins_all s b h
    ∙ ap (λ (t : List ℕ). pairs_of s.n (kept_order (diam s) t (2 ^ s.n - 1)) 0) (table_stands s b c h k)
    ∙ sym (joins_all s c k)

pub found_stands : (s : Sinks) (b c : ℕ) → step_count s.n ≤ b → step_count s.n ≤ c → found s b ≡ found s c
unfolding found
found_stands s b c h k = λ i. record {
  total = ap (total s) (joins_stand s b c h k) i;
  steps = (let e : min b (step_count s.n) ≡ min c (step_count s.n) = omega arith in e) i;
  proven = (le-leb (step_count s.n) b h ∙ sym (le-leb (step_count s.n) c k)) i;
}

-- ---- proven exactly from F(n) on
pub proven_from : (s : Sinks) (b : ℕ) → step_count s.n ≤ b → (found s b).proven ≡ true
unfolding found
proven_from s b h = le-leb (step_count s.n) b h

pub from_proven : (s : Sinks) (b : ℕ) → (found s b).proven ≡ true → step_count s.n ≤ b
unfolding found
from_proven s b e = leb-true (step_count s.n) b e

module _ (xs ys : List ℤ) (delays : List ℕ) (ranged : Ranged xs ys delays) (some : 0 < length xs) (few : length xs ≤ 12) where
  abbrev here : Sinks
  here = sinks_at xs ys delays

  -- the table at every budget, entry by entry
  pub table_is : (b : ℕ) → table_of here b ≡ tab (entry_after (diam here) b) (2 ^ length xs)
  table_is b = table_entries (diam here) (length xs) b few 6000000 (diam_small xs ys delays ranged) (omega arith)

  -- the total of a valid joining order, by its root
  totalled : (js : List ℕ) → Ordered (length xs) js → (o : Order) → node (length xs) js (2 * length xs - 2) ≡ o → total here js ≡ halves here o
  totalled js ordered o e = sym (halves_are here js ordered) ∙ ap (halves here) e

  -- all orders over the sinks have one diameter
  one_diameter : (o w : Order) → Over here o → Over here w → diameter here (sinks_of o) ≤ diameter here (sinks_of w)
  one_diameter o w p q =
      diam_within here (sinks_of o) (sinks_of w) (λ i m. ⊎_elim
      (λ h. count_in i (sinks_of w) (omega (arith, q.once i h)))
      (λ h. absurd (omega (arith, p.no_other i h, in_count i (sinks_of o) m)))
      (or_lt i (length xs)))

  module _ (b : ℕ) (enough : step_count (length xs) ≤ b) where
    kept : Order
    kept = kept_order (diam here) (table_of here b) (2 ^ length xs - 1)

    finishes : Finished (diam here) (2 ^ length xs) (table_of here b)
    finishes = finished (diam here) (length xs) b enough

    kept_all : Over here kept
    unfolding kept
    kept_all = all_over xs ys delays b ranged some few enough

    near : 6000000 ≤ 2 ^ 28
    near = omega arith

    total_kept : total here (joins_found here b) ≡ halves here kept
    unfolding kept
    total_kept =
        ap (total here) (joins_all here b enough)
        ∙ pairs-total here some (let f : length xs ≤ 512 = omega arith in f) (kept_order (diam here) (table_of here b) (2 ^ length xs - 1)) (all_over xs ys delays b ranged some few enough) (all_count xs ys delays b ranged some few (table_of here b))

    -- the total in document 01's words: best of all sinks, and their diameter once more, without the delays
    pub proven_total : total here (joins_found here b) ≡ best (diam here) (2 ^ length xs - 1) + diam here (2 ^ length xs - 1) - 2 * sum_to here.wait (length xs)
    unfolding kept halves
    proven_total =
        let p : 2 ≤ 2 ^ length xs = pow_mono {i = 1} {j = length xs} some in
        let bits : (i : ℕ) → count i (sinks_of kept) ≡ bit i (2 ^ length xs - 1) =
        λ i. sym (mask_bit kept (over_once here kept kept_all) i) ∙ ap (bit i) (over_all here kept kept_all) in
        omega (
          arith,
          total_kept,
          kept_sums here few (table_of here b) finishes 6000000 (diam_small xs ys delays ranged) near some,
          holds_best (diam here) (2 ^ length xs) (pow_mono few) (table_of here b) finishes 6000000 (diam_small xs ys delays ranged) near (2 ^ length xs - 1) (omega arith) (omega arith),
          diam_listed here (2 ^ length xs - 1) (sinks_of kept) bits,
          listed_diam here (2 ^ length xs - 1) (sinks_of kept) bits kept_all.no_other,
        )

    -- NO ZERO-SKEW TREE IS SHORTER than a proven one, at whatever fineness k and with whatever joining
    pub none_is_shorter : (k : ℕ) (g : Tree) → ZeroSkew here k g → k * total here (joins_found here b) ≤ 2 * wire g
    unfolding kept
    none_is_shorter k g z =
        subst (λ (x : ℕ). k * x ≤ 2 * wire g) (sym total_kept) (none_shorter here few (table_of here b) finishes 6000000 (diam_small xs ys delays ranged) near some k g z)

    -- nor is any joining order's
    total_least : (js : List ℕ) → Ordered (length xs) js → total here (joins_found here b) ≤ total here js
    unfolding kept halves
    total_least js ordered =
        let o : Over here (node (length xs) js (2 * length xs - 2)) = over here js ordered in
        omega (
          arith,
          total_kept,
          totalled js ordered (node (length xs) js (2 * length xs - 2)) refl,
          kept_sums here few (table_of here b) finishes 6000000 (diam_small xs ys delays ranged) near some,
          least_of_all here few (table_of here b) finishes (node (length xs) js (2 * length xs - 2)) o,
          one_diameter kept (node (length xs) js (2 * length xs - 2)) kept_all o,
        )

  -- a larger budget never yields more wire
  pub never_more : (b c : ℕ) → b ≤ c → total here (joins_found here c) ≤ total here (joins_found here b)
  never_more b c h = go (or_lt c (step_count (length xs)))
    where
      go : (c < step_count (length xs)) ⊎ (step_count (length xs) ≤ c) → total here (joins_found here c) ≤ total here (joins_found here b)
      go (inl l) = omega (arith, ap (total here) (joins_few here c l), ap (total here) (joins_few here b (omega arith)))
      go (inr l) = total_least c l (joins_found here b) (found_ordered xs ys delays b ranged some few)
