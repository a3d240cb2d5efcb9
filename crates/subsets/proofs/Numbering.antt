-- The joins of the kept splits, as they are written.
use mathlib.Core.Path.{◌≡◌, refl, sym, ap, ap₂, subst, ◌∙◌}
use mathlib.Core.Bool.{Bool, cond}
use mathlib.Core.List.{List, [], ◌∷◌, ◌++◌}
use Prim.Native.Nat.{ℕ, zero, suc, ◌+◌, ◌-◌, ◌*◌, ◌≤◌, ◌<◌}
use native.Mathlib.Nat.{le_refl}
use native.Mathlib.Numerals.{add-one}
use native.Mathlib.Decide.{dec_lt}
use native.Mathlib.Omega.{arith}
use lib.ListN.{length, set, length-append}
use lib.Seq.{sets}
use lib.Count.{ones}
use borrow.Author.Tests.{lt-ltb, le-ltb}
use Rattle.zero_skew.specs.Order.{Order, one, both}
use Rattle.subsets.specs.Kept.{join_count, kept_in, kept_order, kept_part, node_in, node_of, pairs_of}
use Rattle.subsets.specs.Subsets.{lowest}
use Rattle.subsets.proofs.Digits.{ones_rest}
use Rattle.subsets.proofs.KeptParts.{Part, kept_part_lem, ones_pos}

module _ (δ : ℕ → ℕ) (t : List ℕ) where
  -- the two parts of the kept split
  abbrev pub kp : ℕ → ℕ
  kp s = kept_part δ t s

  abbrev pub kr : ℕ → ℕ
  kr s = s - kept_part δ t s

  pub order_small : (f s : ℕ) → ones s < 2 → kept_in δ t f s ≡ one (lowest s)
  unfolding kept_in
  order_small zero s o = refl
  order_small (suc f) s o = ap (λ (b : Bool). cond b (one (lowest s)) (both (kept_in δ t f (kp s)) (kept_in δ t f (kr s)))) (lt-ltb (ones s) 2 o)

  pub order_step : (f s : ℕ) → 2 ≤ ones s → kept_in δ t (suc f) s ≡ both (kept_in δ t f (kp s)) (kept_in δ t f (kr s))
  unfolding kept_in
  order_step f s o = ap (λ (b : Bool). cond b (one (lowest s)) (both (kept_in δ t f (kp s)) (kept_in δ t f (kr s)))) (le-ltb (ones s) 2 o)

  -- any number of turns that is enough gives the same
  order_turns : (f g s : ℕ) → 0 < s → s ≤ f → s ≤ g → kept_in δ t f s ≡ kept_in δ t g s
  order_turns zero g s h l m = absurd (omega arith)
  order_turns (suc f) zero s h l m = absurd (omega arith)
  order_turns (suc f) (suc g) s h l m = go (λ x. order_turns f g x) (dec_lt (ones s) 2)
    where
      go : ((x : ℕ) → 0 < x → x ≤ f → x ≤ g → kept_in δ t f x ≡ kept_in δ t g x) → Dec (ones s < 2) → kept_in δ t (suc f) s ≡ kept_in δ t (suc g) s
      go ih (yes o) = order_small (suc f) s o ∙ sym (order_small (suc g) s o)
      go ih (no o) =
          let o2 : 2 ≤ ones s = omega arith in
          let p : Part s (kept_part δ t s) = kept_part_lem δ t s h o2 in
          order_step f s o2
          ∙ ap₂ both
          (ih (kp s) p.0 (omega (arith, p.1)) (omega (arith, p.1)))
          (ih (kr s) (omega (arith, p.1)) (omega (arith, p.0)) (omega (arith, p.0)))
          ∙ sym (order_step g s o2)

  -- the order of s is made of those of its two parts
  pub order_both : (s : ℕ) → 0 < s → 2 ≤ ones s → kept_order δ t s ≡ both (kept_order δ t (kp s)) (kept_order δ t (kr s))
  order_both s h o =
      let p : Part s (kept_part δ t s) = kept_part_lem δ t s h o in
      order_turns s (suc s) s h (le_refl s) (omega arith)
      ∙ order_step s s o
      ∙ ap₂ both
      (order_turns s (kp s) (kp s) p.0 (omega (arith, p.1)) (le_refl (kp s)))
      (order_turns s (kr s) (kr s) (omega (arith, p.1)) (omega (arith, p.0)) (le_refl (kr s)))

  -- as many joins as sinks, less one
  joins_count : (f s : ℕ) → s ≤ f → 0 < s → join_count (kept_in δ t f s) ≡ ones s - 1
  unfolding join_count
  joins_count zero s l h = absurd (omega arith)
  joins_count (suc f) s l h = go (λ x. joins_count f x) (dec_lt (ones s) 2)
    where
      go : ((x : ℕ) → x ≤ f → 0 < x → join_count (kept_in δ t f x) ≡ ones x - 1) → Dec (ones s < 2) → join_count (kept_in δ t (suc f) s) ≡ ones s - 1
      go ih (yes o) = ap join_count (order_small (suc f) s o) ∙ omega arith
      go ih (no o) =
          let o2 : 2 ≤ ones s = omega arith in
          let p : Part s (kept_part δ t s) = kept_part_lem δ t s h o2 in
          ap join_count (order_step f s o2)
          ∙ omega (
            arith,
            ih (kp s) (omega (arith, p.1)) p.0,
            ih (kr s) (omega (arith, p.0)) (omega (arith, p.1)),
            ones_rest s (kp s) p.2,
            ones_pos (kp s) p.0,
            ones_pos (kr s) (omega (arith, p.1)),
          )

  pub order_count : (s : ℕ) → 0 < s → join_count (kept_order δ t s) ≡ ones s - 1
  order_count s h = joins_count s s (le_refl s) h

  -- the code's node is the order's
  pub node_is : (n s m : ℕ) → 0 < s → node_of n s m ≡ node_in n (kept_order δ t s) m
  unfolding node_of node_in
  node_is n s m h = go (dec_lt (ones s) 2)
    where
      go : Dec (ones s < 2) → node_of n s m ≡ node_in n (kept_order δ t s) m
      go (yes o) = ap (λ (b : Bool). cond b (lowest s) (n + m - 1)) (lt-ltb (ones s) 2 o) ∙ sym (ap (λ (w : Order). node_in n w m) (order_small s s o))
      go (no o) =
          let o2 : 2 ≤ ones s = omega arith in
          ap (λ (b : Bool). cond b (lowest s) (n + m - 1)) (le-ltb (ones s) 2 o2) ∙ sym (ap (λ (w : Order). node_in n w m) (order_both s h o2))

pub pairs-length : (n : ℕ) (o : Order) (made : ℕ) → length (pairs_of n o made) ≡ 2 * join_count o
unfolding pairs_of join_count
pairs-length n (one i) made = refl
pairs-length n (both l r) made =
    length-append (pairs_of n l made) (pairs_of n r (made + join_count l) ++ (node_in n l (made + join_count l) ∷ node_in n r (made + join_count l + join_count r) ∷ []))
    ∙ omega (
      arith,
      pairs-length n l made,
      length-append (pairs_of n r (made + join_count l)) (node_in n l (made + join_count l) ∷ node_in n r (made + join_count l + join_count r) ∷ []),
      pairs-length n r (made + join_count l),
    )

sets_append : (o : List ℕ) (i : ℕ) (vs ws : List ℕ) → sets o i (vs ++ ws) ≡ sets (sets o i vs) (i + length vs) ws
sets_append o i [] ws = ap (λ (k : ℕ). sets o k ws) (let e : i ≡ i + 0 = omega arith in e)
sets_append o i (v ∷ vs) ws = sets_append (set o i v) (suc i) vs ws ∙ ap (λ (k : ℕ). sets (sets (set o i v) (suc i) vs) k ws) (let e : suc i + length vs ≡ i + suc (length vs) = omega arith in e)

-- two orders and their join, written one after the other
both_written : (o : List ℕ) (n : ℕ) (l r : Order) (made mid end x y : ℕ) → mid ≡ made + join_count l → end ≡ mid + join_count r → x ≡ node_in n l mid → y ≡ node_in n r end
    → set (set (sets (sets o (2 * made) (pairs_of n l made)) (2 * mid) (pairs_of n r mid)) (2 * end) x) (2 * end + 1) y ≡ sets o (2 * made) (pairs_of n (both l r) made)
unfolding pairs_of
both_written o n l r made mid end x y em ee ex ey =
    let e1 : 2 * mid ≡ 2 * made + length (pairs_of n l made) = omega (arith, pairs-length n l made) in
    let e2 : 2 * end ≡ 2 * mid + length (pairs_of n r mid) = omega (arith, pairs-length n r mid) in
    let e3 : end ≡ made + join_count l + join_count r = omega arith in
    ap (λ (k : ℕ). set (set (sets (sets o (2 * made) (pairs_of n l made)) (2 * mid) (pairs_of n r mid)) (2 * end) x) k y) (add-one (2 * end))
    ∙ ap (λ (k : ℕ). sets (sets (sets o (2 * made) (pairs_of n l made)) (2 * mid) (pairs_of n r mid)) k (x ∷ y ∷ [])) e2
    ∙ sym (sets_append (sets o (2 * made) (pairs_of n l made)) (2 * mid) (pairs_of n r mid) (x ∷ y ∷ []))
    ∙ ap (λ (k : ℕ). sets (sets o (2 * made) (pairs_of n l made)) k (pairs_of n r mid ++ (x ∷ y ∷ []))) e1
    ∙ sym (sets_append o (2 * made) (pairs_of n l made) (pairs_of n r mid ++ (x ∷ y ∷ [])))
    ∙ ap₂ (λ (a b : ℕ). sets o (2 * made) (pairs_of n l made ++ (pairs_of n r mid ++ (a ∷ b ∷ [])))) ex ey
    ∙ ap₂ (λ (a b : ℕ). sets o (2 * made) (pairs_of n l made ++ (pairs_of n r a ++ (node_in n l a ∷ node_in n r b ∷ [])))) em e3

module _ (δ : ℕ → ℕ) (t : List ℕ) (n s made : ℕ) (pos : 0 < s) where
  pub joins_none : ones s < 2 → pairs_of n (kept_order δ t s) made ≡ []
  unfolding pairs_of
  joins_none o = ap (λ (w : Order). pairs_of n w made) (order_small δ t s s o)

  module _ (two : 2 ≤ ones s) where
    pub join_facts : (a : ℕ) → a ≡ kept_part δ t s → (0 < a) × (a < s) × (0 < ones a) × (0 < ones (s - a)) × (ones a + ones (s - a) ≡ ones s)
    join_facts a ea =
        let p : Part s a = subst (Part s) (sym ea) (kept_part_lem δ t s pos two) in
        (p.0, p.1, ones_pos a p.0, ones_pos (s - a) (omega (arith, p.1)), ones_rest s a p.2)

    -- what is written once both parts and the join are
    pub join_write : (a m e : ℕ) (o o1 o2 o3 : List ℕ) (x y : ℕ) → a ≡ kept_part δ t s → m ≡ made + (ones a - 1) → e ≡ m + (ones (s - a) - 1)
        → o1 ≡ sets o (2 * made) (pairs_of n (kept_order δ t a) made) → o2 ≡ sets o1 (2 * m) (pairs_of n (kept_order δ t (s - a)) m)
        → x ≡ node_of n a m → y ≡ node_of n (s - a) e → o3 ≡ set (set o2 (2 * e) x) (2 * e + 1) y → o3 ≡ sets o (2 * made) (pairs_of n (kept_order δ t s) made)
    join_write a m e o o1 o2 o3 x y ea em ee e1 e2 ex ey e3 =
        let f = join_facts a ea in
        let pb : 0 < s - a = omega (arith, f.1) in
        e3
        ∙ ap (λ (z : List ℕ). set (set z (2 * e) x) (2 * e + 1) y) (e2 ∙ ap (λ (z : List ℕ). sets z (2 * m) (pairs_of n (kept_order δ t (s - a)) m)) e1)
        ∙ both_written o n (kept_order δ t a) (kept_order δ t (s - a)) made m e x y
        (em ∙ ap (λ (z : ℕ). made + z) (sym (order_count δ t a f.0)))
        (ee ∙ ap (λ (z : ℕ). m + z) (sym (order_count δ t (s - a) pb)))
        (ex ∙ node_is δ t n a m f.0)
        (ey ∙ node_is δ t n (s - a) e pb)
        ∙ ap (λ (w : Order). sets o (2 * made) (pairs_of n w made)) (ap (λ (z : ℕ). both (kept_order δ t z) (kept_order δ t (s - z))) ea ∙ sym (order_both δ t s pos two))
