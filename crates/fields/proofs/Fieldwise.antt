-- Fields one after another are of the form and hold their values, and what is of the form is fields one after another.
use mathlib.Core.Path.{◌≡◌, refl, sym, ap, ◌∙◌}
use mathlib.Core.Bool.{false}
use mathlib.Core.List.{List, [], ◌∷◌, ◌++◌, append-nil, append_assoc}
use mathlib.Core.Logic.{⊎_elim}
use Prim.Native.Nat.{ℕ, zero, suc, ◌+◌, ◌≤◌, ◌<◌}
use native.Mathlib.Nat.{add-zero}
use native.Mathlib.Omega.{arith}
use borrow.Author.Tests.{le-ltb, lt-leb, eq-eqb}
use Rattle.std.specs.Prelude.{Ok}
use lib.ListN.{length, get_or, take, drop, length-append, length-take, length-drop, take-append-drop, drop_of_length-le, get_or-eq_default}
use lib.Seq.{length-take-le, take_at, drop_at, drop-cons, drop-drop, get_or_at, get_or-take, get_or-drop}
use Rattle.lists.proofs.Tests.{or_lt}
use Rattle.fields.specs.Bytes.{big, Bytes}
use Rattle.fields.specs.Fields.{field, fields}
use Rattle.fields.specs.Form.{wrong_length, wrong_version, length_at, next_at, value_at, body_at, field_at, form_from}
use Rattle.fields.proofs.BigEndian.{length-big, number_in, big-number}
use Rattle.fields.proofs.Standing.{Stands, Whole, done, more}

pub length-field : (tag : ℕ) (v : List ℕ) → length (field tag v) ≡ 3 + length v
unfolding field
length-field tag v = simp length-append (omega (arith, length-big 2 (length v)))

-- the values of so many fields
abbrev pub values : List ℕ → ℕ → ℕ → List (List ℕ)
values f zero at = []
values f (suc k) at = value_at f at ∷ values f k (next_at f at)

-- ---- written fields
pub record Fair (tag : ℕ) (v : List ℕ) : Type 0 where
  pub long : wrong_length tag (length v) ≡ false
  pub small : length v < 65536
  pub version : (rest : List ℕ) → wrong_version tag (get_or (v ++ rest) 0 0) ≡ false

pub data Fairs : ℕ → List (List ℕ) → Type 0 where
  none : {tag : ℕ} → Fairs tag []
  also : {tag : ℕ} {v : List ℕ} {vs : List (List ℕ)} → Fair tag v → Fairs (suc tag) vs → Fairs tag (v ∷ vs)

module _ (f p r v : List ℕ) (at tag : ℕ) (e : f ≡ p ++ (field tag v ++ r)) (l : length p ≡ at) where
  parts : f ≡ (p ++ (tag ∷ [])) ++ (big 2 (length v) ++ (v ++ r))
  unfolding field
  parts = e ∙ simp append_assoc

  tag_there : get_or f at 0 ≡ tag
  unfolding field
  tag_there = rw e (get_or_at p tag _ 0 at l)

  long_enough : length f ≡ at + 3 + length v + length r
  long_enough = rw parts (simp length-append (omega (arith, length-big 2 (length v))))

  length_there : length v < 65536 → length_at f at ≡ length v
  length_there h =
      rw parts (number_in 2 (length v) (p ++ (tag ∷ [])) (v ++ r) (at + 1) (omega arith) (simp length-append (omega arith)))

  value_from : drop (at + 3) f ≡ v ++ r
  value_from =
      let q : length ((p ++ (tag ∷ [])) ++ big 2 (length v)) ≡ at + 3 = simp length-append (omega (arith, length-big 2 (length v))) in
      rw (parts, sym (append_assoc (p ++ (tag ∷ [])) (big 2 (length v)) (v ++ r))) (drop_at ((p ++ (tag ∷ [])) ++ big 2 (length v)) (v ++ r) (at + 3) q)

  pub value_there : length v < 65536 → value_at f at ≡ v
  value_there h = rw (length_there h, value_from) (take_at v r (length v) refl)

  pub field_there : Fair tag v → field_at f at tag ≡ Ok (next_at f at)
  unfolding field_at body_at
  field_there g =
      let n = length_there g.small in
      let m = long_enough in
      let b : get_or f (at + 3) 0 ≡ get_or (v ++ r) 0 0 = ap (λ (k : ℕ). get_or f k 0) (sym (add-zero (at + 3))) ∙ sym (get_or-drop (at + 3) f 0 0) ∙ rw value_from in
      rw (
        lt-leb (length f) at (omega arith),
        eq-eqb (get_or f at 0) tag tag_there,
        le-ltb (length f) (at + 3) (omega arith),
        ap (wrong_length tag) n ∙ g.long,
        le-ltb (length f) (next_at f at) (omega arith),
        ap (wrong_version tag) b ∙ g.version r,
      )

pub written_form : (f p : List ℕ) (at tag : ℕ) (vs : List (List ℕ)) → f ≡ p ++ fields tag vs → length p ≡ at → Fairs tag vs → (form_from f (length vs) tag at ≡ Ok tt) × (values f (length vs) at ≡ vs)
unfolding form_from
written_form f p at tag [] e l none = (rw (le-ltb at (length f) (rw (e, append-nil) (omega arith))), refl)
written_form f p at tag (v ∷ vs) e l (also g gs) =
    let n = value_there f p (fields (suc tag) vs) v at tag e l g.small in
    let s = field_there f p (fields (suc tag) vs) v at tag e l g in
    let m = length_there f p (fields (suc tag) vs) v at tag e l g.small in
    let (a, b) = written_form f (p ++ field tag v) (next_at f at) (suc tag) vs (e ∙ sym (append_assoc p (field tag v) (fields (suc tag) vs))) (simp length-append (omega (arith, m, length-field tag v))) gs in
    (rw s a, rw (n, b))

-- ---- fields that are read
-- a part of bytes is bytes
pub part_bytes : (f : List ℕ) (n k : ℕ) → Bytes f → Bytes (take n (drop k f))
part_bytes f n k b = record { byte = λ i. one i }
  where
    beyond : (i : ℕ) → n ≤ i → get_or (take n (drop k f)) i 0 ≡ 0
    beyond i h = get_or-eq_default (take n (drop k f)) 0 {n = i} (rw length-take (omega arith))

    one : (i : ℕ) → get_or (take n (drop k f)) i 0 < 256
    one i =
        ⊎_elim
        (λ h. rw (get_or-take n (drop k f) i 0 h, get_or-drop k f i 0) (b.byte (k + i)))
        (λ h. rw (beyond i h) (omega arith))
        (or_lt i n)

module _ (f : List ℕ) (b : Bytes f) where
  module _ (at tag : ℕ) (s : Stands f at tag) where
    pub value_long : length (value_at f at) ≡ length_at f at
    value_long = length-take-le (length_at f at) (drop (at + 3) f) (rw length-drop (omega (arith, s.within)))

    -- what stands there is the field
    field_read : drop at f ≡ field tag (value_at f at) ++ drop (next_at f at) f
    unfolding field
    field_read =
        let h = s.header in
        drop-cons f at 0 (omega arith) ∙ ap (λ (t : ℕ). t ∷ drop (suc at) f) s.tagged ∙ ap (λ (l : List ℕ). tag ∷ l) rest
      where
        rest : drop (suc at) f ≡ (big 2 (length (value_at f at)) ++ value_at f at) ++ drop (next_at f at) f
        rest =
            let q : suc at ≡ at + 1 = omega arith in
            let m : at + 1 + 2 ≡ at + 3 = omega arith in
            let t : at + 1 + 2 ≤ length f = omega (arith, s.header) in
            let n = big-number 2 f (at + 1) b t in
            let d : drop 2 (drop (at + 1) f) ≡ drop (at + 3) f = drop-drop 2 (at + 1) f ∙ ap (λ (k : ℕ). drop k f) m in
            let g : drop (length_at f at) (drop (at + 3) f) ≡ drop (next_at f at) f = drop-drop (length_at f at) (at + 3) f in
            rw (value_long, append_assoc, n, sym g, take-append-drop (length_at f at) (drop (at + 3) f), sym d, take-append-drop 2 (drop (at + 1) f), q)

  pub made : (k tag at : ℕ) → Whole f k tag at → drop at f ≡ fields tag (values f k at)
  made zero tag at (done h) = drop_of_length-le f h
  made (suc k) tag at (more s w) = field_read at tag s ∙ ap (λ (l : List ℕ). field tag (value_at f at) ++ l) (made k (suc tag) (next_at f at) w)
