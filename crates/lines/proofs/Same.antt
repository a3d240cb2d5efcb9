-- Lists with the same entries give the same lines.
use mathlib.Core.Path.{◌≡◌, refl, sym, ◌∙◌}
use mathlib.Core.Bool.{Bool, true, false}
use mathlib.Core.List.{List}
use Prim.Native.Nat.{ℕ, zero, suc, ◌-◌, ◌*◌, ◌<◌}
use native.Mathlib.Omega.{arith}
use borrow.Author.Tests.{eqb-true, eqb-false}
use lib.Dec.{eqb}
use lib.IntN.{ℤ, pos}
use lib.ListN.{length, get_or}
use Rattle.lists.proofs.Grow.{get_d_tab}
use Rattle.orders.specs.Arrays.{Parents}
use Rattle.orders.specs.Nodes.{parent}
use Rattle.orders.specs.Sound.{Ordered}
use Rattle.orders.proofs.Parents.{parent_above}
use Rattle.lines.specs.Lines.{parents, parent_field, node_line, node_lines}
use Rattle.lines.specs.Parts.{ParentsUp}
use Rattle.lines.proofs.Fields.{field-root, field_other}

-- below m the lists have the same entries; the root's parent does not matter
pub record Same (n m : ℕ) (ps ps' : List ℕ) (us us' vs vs' : List ℤ) (ws ws' : List ℕ) : Type 0 where
  pub same_p : (k : ℕ) → k < m → (k ≡ 2 * n - 2 → ⊥) → get_or ps k 0 ≡ get_or ps' k 0
  pub same_u : (k : ℕ) → k < m → get_or us k (pos 0) ≡ get_or us' k (pos 0)
  pub same_v : (k : ℕ) → k < m → get_or vs k (pos 0) ≡ get_or vs' k (pos 0)
  pub same_w : (k : ℕ) → k < m → get_or ws k 0 ≡ get_or ws' k 0

module _ (n : ℕ) (ps ps' : List ℕ) (us us' vs vs' : List ℤ) (ws ws' : List ℕ) where
  field_same : (k : ℕ) → ((k ≡ 2 * n - 2 → ⊥) → get_or ps k 0 ≡ get_or ps' k 0) → parent_field n ps k ≡ parent_field n ps' k
  field_same k e = go (eqb k (2 * n - 2)) refl
    where
      go : (t : Bool) → eqb k (2 * n - 2) ≡ t → parent_field n ps k ≡ parent_field n ps' k
      go true q = let h = eqb-true k (2 * n - 2) q in field-root n ps k h ∙ sym (field-root n ps' k h)
      go false q = let h = eqb-false k (2 * n - 2) q in field_other n ps k h ∙ rw (e h) (sym (field_other n ps' k h))

  pub lines_same : (m : ℕ) → Same n m ps ps' us us' vs vs' ws ws' → node_lines n ps us vs ws m ≡ node_lines n ps' us' vs' ws' m
  unfolding node_lines node_line
  lines_same zero s = refl
  lines_same (suc m) s =
      let e = lines_same m record {
        same_p = λ k h. s.same_p k (omega arith);
        same_u = λ k h. s.same_u k (omega arith);
        same_v = λ k h. s.same_v k (omega arith);
        same_w = λ k h. s.same_w k (omega arith);
      } in
      let h : m < suc m = omega arith in
      rw (e, s.same_u m h, s.same_v m h, s.same_w m h, field_same m (s.same_p m h))

-- the parents that the code has worked out are those of the pairs, but for the root's
pub parents_same : (n : ℕ) (js ps : List ℕ) → Parents n js ps → (k : ℕ) → k < 2 * n - 1 → (k ≡ 2 * n - 2 → ⊥) → get_or ps k 0 ≡ get_or (parents n js) k 0
parents_same n js ps p k h e =
    let l : k < 2 * n - 2 = omega (arith, e) in
    p k l ∙ sym (get_d_tab (parent n js) (2 * n - 2) k 0 l)

-- the parents that the code has worked out give the lines of those of the pairs
pub lines_with : (n : ℕ) (js ps : List ℕ) (us vs : List ℤ) (ws : List ℕ) → Parents n js ps
    → node_lines n (parents n js) us vs ws (2 * n - 1) ≡ node_lines n ps us vs ws (2 * n - 1)
lines_with n js ps us vs ws p =
    lines_same n (parents n js) ps us us vs vs ws ws (2 * n - 1) record {
      same_p = λ k h e. sym (parents_same n js ps p k h e);
      same_u = λ k h. refl;
      same_v = λ k h. refl;
      same_w = λ k h. refl;
    }

-- and are in range, in the list of 1,023 that they are worked out into
pub parents_up : {n : ℕ} {js ps : List ℕ} → Ordered n js → Parents n js ps → length ps ≡ 1023 → ParentsUp n ps
parents_up {n} {js} o p e =
    record {
      some = o.some;
      few = o.few;
      tall_p = omega (arith, o.few, e);
      low_p = λ k h. rw (p k h) (parent_above n js o k h).1;
    }
