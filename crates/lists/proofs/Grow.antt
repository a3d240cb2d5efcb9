-- Lists that are made from the front, held in an array or in a buffer.
use mathlib.Core.Path.{◌≡◌, refl, sym, ap, ◌∙◌}
use mathlib.Core.List.{List, [], ◌∷◌, ◌++◌, append-nil, append_assoc}
use Prim.Native.Nat.{ℕ, zero, suc, ◌+◌, ◌≤◌, ◌<◌}
use native.Mathlib.Numerals.{add-one}
use native.Mathlib.Omega.{arith}
use mathlib.Core.Bool.{Bool, true, false}
use borrow.Author.Tests.{ltb-true, ltb-false, eqb-true, eqb-false}
use lib.Dec.{ltb, eqb}
use lib.ListN.{length, get_or, drop, set, length-append, length-set, get_or-append}
use lib.Seq.{drop-cons, drop-length, set_at, get_or_at, get_or-set_same, get_or-set_other}
use Rattle.lists.specs.Grow.{grow, front, tab, sum_to, up_to}

module _ {A : Type 0} where
  pub length-grow : (f : List A → A) (k : ℕ) → length (grow f k) ≡ k
  length-grow f zero = refl
  length-grow f (suc k) =
      let h = length-grow f k in
      simp length-append (omega (arith, length-grow f k))

  -- a buffer that is written from its front, with one entry more
  pub front_more : (new old : List A) (k : ℕ) (v : A) → length new ≡ k → k < length old → set (new ++ drop k old) k v ≡ (new ++ (v ∷ [])) ++ drop (k + 1) old
  front_more new old k v e h =
      let d = drop-cons old k v h in
      rw (d, add-one, append_assoc) (set_at new (get_or old k v) (drop (suc k) old) v k e)

  -- a buffer whose first k entries are written
  pub record Filled (f : List A → A) (k : ℕ) (old l : List A) : Type 0 where
    pub is : l ≡ grow f k ++ drop k old
    pub size : length l ≡ length old
    pub room : k ≤ length old

  pub filled_begin : {f : List A → A} {old : List A} → Filled f 0 old old
  filled_begin {f} {old} = record { is = refl; size = refl; room = omega arith }

  pub filled_more : {f : List A → A} {k : ℕ} {old l : List A} (v : A) → Filled f k old l → k < length old → v ≡ f (grow f k) → Filled f (k + 1) old (set l k v)
  filled_more {f} {k} {old} {l} v g h e =
      record {
        is = rw (g.is, front_more (grow f k) old k v (length-grow f k) h, add-one, e);
        size = length-set l k v ∙ g.size;
        room = omega arith;
      }

  pub filled_done : {f : List A → A} {k : ℕ} {old l : List A} (m : ℕ) → Filled f k old l → k ≡ m → l ≡ front (grow f m) old
  filled_done {f} {k} {old} {l} m g e = rw (length-grow f m, sym e) g.is

  pub filled_last : {f : List A → A} {k : ℕ} {old l : List A} (m r : ℕ) (v : A) → Filled f k old l → k ≡ m → m + 1 ≡ r → m < length old → v ≡ f (grow f m) → set l m v ≡ front (grow f r) old
  filled_last {f} {k} {old} {l} m r v g e q h w = filled_done r (filled_more v (rw e at g) h w) q

  -- the whole buffer
  pub filled_all : {f : List A → A} {k : ℕ} {old l : List A} → Filled f k old l → length old ≤ k → l ≡ grow f (length old)
  filled_all {f} {k} {old} {l} g h =
      let e : k ≡ length old = omega (arith, g.room) in
      g.is ∙ rw (e, drop-length old) (append-nil (grow f (length old)))

  pub tab_at : (g : ℕ → A) (k : ℕ) → g (length (grow (λ l. g (length l)) k)) ≡ g k
  tab_at g k = ap g (length-grow (λ l. g (length l)) k)

  -- an entry of a list that is made is what the entries before it make
  pub grow_at : (f : List A → A) (m k : ℕ) (d : A) → k < m → get_or (grow f m) k d ≡ f (grow f k)
  grow_at f zero k d h = let b : ⊥ = omega arith in absurd b
  grow_at f (suc m) k d h = go (ltb k m) refl (grow_at f m k d)
    where
      go : (t : Bool) → ltb k m ≡ t → (k < m → get_or (grow f m) k d ≡ f (grow f k)) → get_or (grow f (suc m)) k d ≡ f (grow f k)
      go true e r =
          let l = ltb-true k m e in
          get_or-append (grow f m) (f (grow f m) ∷ []) d k (omega (arith, length-grow f m)) ∙ r l
      go false e r =
          let q : k ≡ m = omega (arith, ltb-false k m e) in
          rw q (get_or_at (grow f m) (f (grow f m)) [] d m (length-grow f m))

  pub get_d_tab : (g : ℕ → A) (m k : ℕ) (d : A) → k < m → get_or (tab g m) k d ≡ g k
  get_d_tab g m k d h = grow_at (λ l. g (length l)) m k d h ∙ tab_at g k

  pub grow_low : (f : List A → A) (m k a : ℕ) (d e : A) → a < k → k ≤ m → get_or (grow f m) a d ≡ get_or (grow f k) a e
  grow_low f m k a d e h l = grow_at f m a d (omega arith) ∙ sym (grow_at f k a e h)

module _ {A : Type 0} (P : ℕ → A → Type 0) where
  -- what holds of each entry below k, and of the one that is written at k, holds below k + 1
  pub each_more : (l : List A) (k : ℕ) (v d : A) → k < length l → P k v → ((i : ℕ) → i < k → P i (get_or l i d)) → (i : ℕ) → i < k + 1 → P i (get_or (set l k v) i d)
  each_more l k v d h p e i g = go (eqb k i) refl
    where
      go : (t : Bool) → eqb k i ≡ t → P i (get_or (set l k v) i d)
      go true q = let r = eqb-true k i q in rw (← r) (rw (get_or-set_same l k v d h) p)
      go false q = let r = eqb-false k i q in rw (get_or-set_other l k i v d (λ e. r (sym e))) (e i (omega (arith, r)))

-- lists that are made by index are one where their entries are
pub tab_same : {A : Type 0} (f g : ℕ → A) (m : ℕ) → ((k : ℕ) → k < m → f k ≡ g k) → tab f m ≡ tab g m
tab_same {A} f g zero h = refl
tab_same {A} f g (suc m) h =
    ap (λ (l : List A). l ++ (f (length (tab f m)) ∷ [])) (tab_same f g m (λ k l. h k (omega arith)))
    ∙ ap (λ (a : A). tab g m ++ (a ∷ [])) (tab_at f m ∙ h m (omega arith) ∙ sym (tab_at g m))

pub sum_same : (f g : ℕ → ℕ) (m : ℕ) → ((k : ℕ) → k < m → f k ≡ g k) → sum_to f m ≡ sum_to g m
sum_same f g zero h = refl
sum_same f g (suc m) h = omega (arith, h m (omega arith), sum_same f g m (λ k l. h k (omega arith)))

pub sum_more : (f : ℕ → ℕ) (i : ℕ) → sum_to f (i + 1) ≡ sum_to f i + f i
sum_more f i = rw add-one

pub length-up_to : (n : ℕ) → length (up_to n) ≡ n
length-up_to n = length-grow (λ l. length l) n

pub up_to_more : (n : ℕ) → up_to (n + 1) ≡ up_to n ++ (n ∷ [])
up_to_more n = rw (add-one, tab_at (λ i. i) n)
