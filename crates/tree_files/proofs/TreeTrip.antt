-- Tree files: what is written is read back, and what is accepted is written back to the same bytes.
use mathlib.Core.Path.{◌≡◌, refl, sym, ap, ◌∙◌}
use mathlib.Core.Bool.{Bool, true, false, not, ◌&&◌}
use mathlib.Core.List.{List, [], ◌∷◌}
use mathlib.Core.Logic.{⊎_elim}
use Prim.Native.Nat.{ℕ, ◌+◌, ◌%◌, ◌≤◌, ◌<◌}
use native.Mathlib.Omega.{arith}
use borrow.Author.Tests.{eq-eqb, eqb-true, not-false, ltb-false}
use Rattle.std.specs.Prelude.{Ok}
use lib.Dec.{T, eqb, ltb, eqb→eq}
use lib.IntN.{ℤ, pos, negsuc}
use lib.ListN.{length, get_or}
use lib.Seq.{ext_get_or}
use Rattle.lists.specs.First.{first}
use Rattle.lists.proofs.Tests.{and_both, or_lt}
use Rattle.lists.proofs.First.{first_hit, first_none}
use Rattle.measures.specs.Range.{equal}
use Rattle.plane.specs.Sinks.{sinks_at, prompt}
use Rattle.plane.specs.declared.refusal.Refusal.TheVariants.{Tags, Unlike}
use Rattle.plane.proofs.Checks.{passed, both_pass}
use Rattle.plane.proofs.Spread.{fitting_spread}
use Rattle.orders.specs.Nodes.{places_u, places_v, wires}
use Rattle.orders.specs.Joins.{check_order}
use Rattle.orders.proofs.Bounded.{order-sound}
use Rattle.orders.proofs.Fits.{places_u_fit, places_v_fit, wires_bounded}
use Rattle.fields.specs.Bytes.{Bytes}
use Rattle.fields.specs.Fields.{fields, version, places, numbers, firsts, seconds, numbers_in}
use Rattle.tree_files.specs.Trees.{tree_file, unlike, check_nodes, check_tags, check_tree_file}
use Rattle.fields.specs.Form.{length_at, value_at, value_of, past, form}
use Rattle.house.specs.Reading.{xs_in, ys_in, joins_in}
use Rattle.fields.proofs.Values.{length_places, length-numbers, length_firsts, length_seconds, firsts_back, seconds_back, numbers_back, places_back, numbers_made}
use Rattle.fields.proofs.Standing.{Stands, Whole, more, whole}
use Rattle.fields.proofs.Fieldwise.{values, Fair, none, also, written_form, made, part_bytes, value_long}
use Rattle.house.proofs.RoundTrip.{wide, wide_x, wide_y, fair-version, fair-sinks, version_back, sinks_value}
use Rattle.house.proofs.JoinsTrip.{small_nodes, fair-nodes, nodes_value}
use Rattle.tree_files.proofs.TreeAnswers.{equal_self, nodes-alike, length_u, length_v, length-wires}

-- ---- tags 4 and 5 that pass are what embedding gives
equal_is : (a b : ℤ) → T (equal a b) → a ≡ b
equal_is (pos a) (pos b) t = ap pos (eqb→eq a b t)
equal_is (pos a) (negsuc b) t = absurd t
equal_is (negsuc a) (pos b) t = absurd t
equal_is (negsuc a) (negsuc b) t = ap negsuc (eqb→eq a b t)

module _ (us vs : List ℤ) (ws : List ℕ) (fu fv : List ℤ) (fw : List ℕ) (v : length us ≡ length vs) (w : length us ≡ length ws) (g : length fu ≡ length fv) where
  pub record Alike : Type 0 where
    pub same_u : fu ≡ us
    pub same_v : fv ≡ vs
    pub same_w : fw ≡ ws

  pub nodes_same : check_nodes us vs ws fu fv fw ≡ Ok tt → Alike
  unfolding check_nodes
  nodes_same q =
      let a = passed (not (eqb (length fu) (length us) && eqb (length fw) (length us))) Tags _ q in
      let (p, r) = and_both (eqb (length fu) (length us)) (eqb (length fw) (length us)) (not-false _ a.0) in
      let lu : length fu ≡ length us = eqb→eq (length fu) (length us) p in
      let lw : length fw ≡ length us = eqb→eq (length fw) (length us) r in
      let b = passed (ltb (first (unlike us vs ws fu fv fw) 0 (length us)) (length us)) (Unlike (first (unlike us vs ws fu fv fw) 0 (length us))) (Ok tt) a.1 in
      let m = ltb-false (first (unlike us vs ws fu fv fw) 0 (length us)) (length us) b.0 in
      record {
        same_u = ext_get_or (pos 0) fu us lu (λ i h. equal_is _ _ (at m i (omega arith)).0);
        same_v = ext_get_or (pos 0) fv vs (omega arith) (λ i h. equal_is _ _ (at m i (omega arith)).1);
        same_w = ext_get_or 0 fw ws (omega arith) (λ i h. eqb→eq _ _ (at m i (omega arith)).2);
      }
    where
      at : length us ≤ first (unlike us vs ws fu fv fw) 0 (length us) → (i : ℕ) → i < length us → T (equal (get_or fu i (pos 0)) (get_or us i (pos 0))) × T (equal (get_or fv i (pos 0)) (get_or vs i (pos 0))) × T (eqb (get_or fw i 0) (get_or ws i 0))
      at m i h =
          let n = first_none (unlike us vs ws fu fv fw) 0 (length us) (omega arith) i (omega arith) (omega arith) in
          let (x, yz) = both_of (equal (get_or fu i (pos 0)) (get_or us i (pos 0))) (equal (get_or fv i (pos 0)) (get_or vs i (pos 0)) && eqb (get_or fw i 0) (get_or ws i 0)) (not-false _ n) in
          let (y, z) = and_both (equal (get_or fv i (pos 0)) (get_or vs i (pos 0))) (eqb (get_or fw i 0) (get_or ws i 0)) yz in
          (x, y, z)
        where
          both_of : (a b : Bool) → (a && b) ≡ true → T a × (b ≡ true)
          both_of true b e = (tt, e)
          both_of false b e = let z : ◌≡◌ {A = ℕ} 0 1 = cc in let b : ⊥ = omega arith in absurd b

module _ (f : List ℕ) (b : Bytes f) (at : ℕ) where
  places_value : Stands f at 4 → places (firsts (value_at f at)) (seconds (value_at f at)) ≡ value_at f at
  places_value s =
      let l : length_at f at % 8 ≡ 0 = eqb-true (length_at f at % 8) 0 (not-false (eqb (length_at f at % 8) 0) s.long) in
      places_back (value_at f at) (part_bytes f (length_at f at) (at + 3) b) (rw (value_long f b at 4 s) l)

  wires_value : Stands f at 5 → numbers 4 (numbers_in 4 (value_at f at)) ≡ value_at f at
  wires_value s =
      let l : length_at f at % 4 ≡ 0 = eqb-true (length_at f at % 4) 0 (not-false (eqb (length_at f at % 4) 0) s.long) in
      let n = value_long f b at 5 s in
      numbers_made 4 (value_at f at) (part_bytes f (length_at f at) (at + 3) b) (omega arith)

pub tree_kept : (f : List ℕ) → Bytes f → check_tree_file f ≡ Ok tt → tree_file (xs_in f) (ys_in f) (joins_in f) ≡ f
unfolding tree_file check_tree_file check_tags past
tree_kept f b q =
    let (a, r) = both_pass (form 5 f) _ q in
    let d = (both_pass (check_order xs ys (prompt xs) js) _ r).1 in
    go (whole f 5 1 0 a) (nodes_same us vs ws (firsts v4) (seconds v4) (numbers_in 4 v5) (length_u xs ys js ∙ sym (length_v xs ys js)) (length_u xs ys js ∙ sym (length-wires xs ys js)) (length_firsts v4 ∙ sym (length_seconds v4)) d)
  where
    xs : List ℤ
    xs = xs_in f

    ys : List ℤ
    ys = ys_in f

    js : List ℕ
    js = joins_in f

    us : List ℤ
    us = places_u (sinks_at xs ys (prompt xs)) js

    vs : List ℤ
    vs = places_v (sinks_at xs ys (prompt xs)) js

    ws : List ℕ
    ws = wires (sinks_at xs ys (prompt xs)) js

    v4 : List ℕ
    v4 = value_of f 4

    v5 : List ℕ
    v5 = value_of f 5

    go : Whole f 5 1 0 → Alike us vs ws (firsts v4) (seconds v4) (numbers_in 4 v5) (length_u xs ys js ∙ sym (length_v xs ys js)) (length_u xs ys js ∙ sym (length-wires xs ys js)) (length_firsts v4 ∙ sym (length_seconds v4)) → tree_file xs ys js ≡ f
    go (more s (more t (more u (more x (more y w))))) l =
        let p1 = version_back f b 0 s in
        let p2 = sinks_value f b (past f 1) t in
        let p3 = nodes_value f b (past f 2) u in
        let p4 : places us vs ≡ v4 = ap (λ (k : List ℤ). places k vs) (sym l.same_u) ∙ ap (λ (k : List ℤ). places (firsts v4) k) (sym l.same_v) ∙ places_value f b (past f 3) x in
        let p5 : numbers 4 ws ≡ v5 = ap (numbers 4) (sym l.same_w) ∙ wires_value f b (past f 4) y in
        let e : version ∷ places xs ys ∷ numbers 2 js ∷ places us vs ∷ numbers 4 ws ∷ [] ≡ values f 5 0 = cc in
        ap (fields 1) e ∙ sym (made f b 5 1 0 (more s (more t (more u (more x (more y w))))))

-- ---- a tree file is read back
nodes_fine : (us vs : List ℤ) (ws : List ℕ) → length us ≡ length ws → check_nodes us vs ws us vs ws ≡ Ok tt
nodes_fine us vs ws w = sym (nodes-alike us vs ws us vs ws refl (sym w) refl (⊎_elim (λ h. absurd (never h)) (λ h. h) (or_lt (first (unlike us vs ws us vs ws) 0 (length us)) (length us))))
  where
    alike : (k : ℕ) → unlike us vs ws us vs ws k ≡ false
    alike k = simp (equal_self (get_or us k (pos 0)), equal_self (get_or vs k (pos 0)), eq-eqb (get_or ws k 0) (get_or ws k 0) refl)

    never : first (unlike us vs ws us vs ws) 0 (length us) < length us → ⊥
    never h =
        let y = first_hit (unlike us vs ws us vs ws) 0 (length us) (omega arith) in
        let n = alike (first (unlike us vs ws us vs ws) 0 (length us)) in
        let z : ◌≡◌ {A = ℕ} 0 1 = cc in omega arith

fair-places : (us vs : List ℤ) → length us ≤ 1023 → Fair 4 (places us vs)
fair-places us vs h =
    let l = length_places us vs in
    record { long = simp (eq-eqb (length (places us vs) % 8) 0 (omega arith)); small = omega arith; version = λ rest. refl }

fair-wires : (ws : List ℕ) → length ws ≤ 1023 → Fair 5 (numbers 4 ws)
fair-wires ws h =
    let l = length-numbers 4 ws in
    record { long = simp (eq-eqb (length (numbers 4 ws) % 4) 0 (omega arith)); small = omega arith; version = λ rest. refl }

pub record TreeBack (xs ys : List ℤ) (js : List ℕ) : Type 0 where
  pub checked : check_tree_file (tree_file xs ys js) ≡ Ok tt
  pub same_x : xs_in (tree_file xs ys js) ≡ xs
  pub same_y : ys_in (tree_file xs ys js) ≡ ys
  pub same_j : joins_in (tree_file xs ys js) ≡ js

pub tree_back : (xs ys : List ℤ) (js : List ℕ) → check_order xs ys (prompt xs) js ≡ Ok tt → TreeBack xs ys js
unfolding tree_file check_tree_file check_tags past
tree_back xs ys js q =
    let s = order-sound xs ys (prompt xs) js q in
    let o = s.joins in
    let few = o.few in
    let sinks = sinks_at xs ys (prompt xs) in
    let spread = fitting_spread s.sinks in
    let us = places_u sinks js in
    let vs = places_v sinks js in
    let ws = wires sinks js in
    let lu = length_u xs ys js in
    let lv = length_v xs ys js in
    let lw = length-wires xs ys js in
    let all = version ∷ places xs ys ∷ numbers 2 js ∷ places us vs ∷ numbers 4 ws ∷ [] in
    let (a, b) = written_form (fields 1 all) [] 0 1 all refl refl (also fair-version (also (fair-sinks xs ys (omega arith)) (also (fair-nodes (length xs) js o) (also (fair-places us vs (omega arith)) (also (fair-wires ws (omega arith)) none))))) in
    let e2 : value_of (tree_file xs ys js) 2 ≡ places xs ys = cc in
    let e3 : value_of (tree_file xs ys js) 3 ≡ numbers 2 js = cc in
    let e4 : value_of (tree_file xs ys js) 4 ≡ places us vs = cc in
    let e5 : value_of (tree_file xs ys js) 5 ≡ numbers 4 ws = cc in
    let x = ap firsts e2 ∙ firsts_back xs ys (wide_x xs ys s.sinks) in
    let y = ap seconds e2 ∙ seconds_back xs ys (wide_y xs ys s.sinks) s.sinks.alike in
    let j = ap (numbers_in 2) e3 ∙ numbers_back 2 js (omega arith) (small_nodes (length xs) js o) in
    let u = ap firsts e4 ∙ firsts_back us vs (wide us (places_u_fit sinks spread js o)) in
    let v = ap seconds e4 ∙ seconds_back us vs (wide vs (places_v_fit sinks spread js o)) (lu ∙ sym lv) in
    let w = ap (numbers_in 4) e5 ∙ numbers_back 4 ws (omega arith) (λ k h. omega (arith, wires_bounded sinks spread js o k h)) in
    record { checked = rw (a, x, y, j, q, u, v, w) (nodes_fine us vs ws (lu ∙ sym lw)); same_x = x; same_y = y; same_j = j }
