-- The check of the form, a field at a time: what is left of it, from byte `at` on, has the answer.
use mathlib.Core.Path.{◌≡◌, sym, ◌∙◌}
use mathlib.Core.Bool.{false}
use mathlib.Core.List.{List}
use Prim.Native.Nat.{ℕ, suc, ◌+◌, ◌-◌, ◌≤◌, ◌<◌}
use native.Mathlib.Numerals.{add-one}
use native.Mathlib.Omega.{arith}
use borrow.Author.Tests.{lt-ltb, le-ltb, eqb-true, not-false}
use Rattle.std.specs.Prelude.{Ok, Err}
use lib.Dec.{eqb}
use lib.ListN.{length}
use Rattle.plane.specs.declared.refusal.Refusal.{Refusal}
use Rattle.plane.specs.declared.refusal.Refusal.TheVariants.{Form}
use Rattle.fields.specs.Form.{field_at, form_from, form, past, next_at, wrong_length, Formed}

pub record Scan (f : List ℕ) (last at tag : ℕ) : Type 0 where
  pub low : 1 ≤ tag
  pub high : tag ≤ last + 1
  pub same : form_from f (last + 1 - tag) tag at ≡ form last f

module _ (f : List ℕ) (last : ℕ) where
  pub scan_begin : Scan f last 0 1
  scan_begin =
      let e : last + 1 - 1 ≡ last = omega arith in
      record { low = omega arith; high = omega arith; same = rw e }

  module _ (at tag : ℕ) (s : Scan f last at tag) where
    pub scan_next : (next : ℕ) → tag ≤ last → field_at f at tag ≡ Ok next → Scan f last next (tag + 1)
    unfolding form_from
    scan_next next h q =
        let e : last + 1 - tag ≡ suc (last + 1 - (tag + 1)) = omega arith in
        let r : form_from f (last + 1 - tag) tag at ≡ form_from f (last + 1 - (tag + 1)) (suc tag) next = rw (e, q) in
        record { low = omega arith; high = omega arith; same = rw (add-one tag) (sym (rw (add-one tag) at r) ∙ s.same) }

    pub scan_bad : (r : Refusal) → tag ≤ last → field_at f at tag ≡ Err r → Err r ≡ form last f
    unfolding form_from
    scan_bad o h q =
        let e : last + 1 - tag ≡ suc (last - tag) = omega arith in
        let r : form_from f (last + 1 - tag) tag at ≡ Err o = rw (e, q) in
        sym r ∙ s.same

    pub scan_more : last < tag → at < length f → Err (Form at) ≡ form last f
    unfolding form_from
    scan_more h l =
        let e : last + 1 - tag ≡ 0 = omega arith in
        let r : form_from f (last + 1 - tag) tag at ≡ Err (Form at) = rw (e, lt-ltb at (length f) l) in
        sym r ∙ s.same

    pub scan_end : last < tag → length f ≤ at → Ok tt ≡ form last f
    unfolding form_from
    scan_end h l =
        let e : last + 1 - tag ≡ 0 = omega arith in
        let r : form_from f (last + 1 - tag) tag at ≡ Ok tt = rw (e, le-ltb at (length f) l) in
        sym r ∙ s.same

pub past_more : (f : List ℕ) (k : ℕ) → past f (k + 1) ≡ next_at f (past f k)
unfolding past
past_more f k = rw (add-one k)

-- the version is one byte
pub one_byte : (tag n : ℕ) → tag ≡ 1 → wrong_length tag n ≡ false → n ≡ 1
one_byte tag n p q = eqb-true n 1 (not-false (eqb n 1) (simp p at q))

-- fields that lie in the file
pub formed_less : {k : ℕ} {f : List ℕ} (j : ℕ) → j ≤ k → Formed k f → Formed j f
formed_less {k} {f} j h g = record { header = λ t l. g.header t (omega arith); within = λ t l. g.within t (omega arith) }

pub formed_next : {k : ℕ} {f : List ℕ} (t : ℕ) → t < k → Formed k f → next_at f (past f t) ≤ length f
unfolding past
formed_next {k} {f} t h g = g.within t h
