-- The rows: what a write to one of them does, and what a run of writes does.
use mathlib.Core.Path.{◌≡◌, refl, sym, ◌∙◌, ap}
use mathlib.Core.Bool.{Bool, true, false, cond}
use Prim.Native.Nat.{ℕ, ◌+◌, ◌<◌}
use native.Mathlib.Omega.{arith}
use borrow.Author.Tests.{eqb-true, eqb-false}
use lib.Dec.{eqb, ltb}
use Rattle.measures.specs.declared.boxes.Box.{Box}
use Rattle.partners.specs.declared.rows.Rows.{Rows}
use Rattle.partners.specs.Rows.{Row, row_at, span, given, held, Sets, Holds, NewBox}

-- a row's partner is chosen: the nearer of the node it is held against and the one it kept
held_as : (b : Box) (m : ℕ) (r : Row) {e x y : ℕ} → e ≡ span r b → x ≡ cond (ltb e r.far) e r.far → y ≡ cond (ltb e r.far) m r.at → given r y x ≡ held b m r
unfolding held
held_as b m r p q u = rw (q, u, p) (go (ltb (span r b) r.far))
  where
    go : (c : Bool) → given r (cond c m r.at) (cond c (span r b) r.far) ≡ cond c (given r m (span r b)) r
    go true = refl
    go false = refl

pub chosen_held : (b : Box) (m x y : ℕ) (r : Row) {t e : ℕ} {o : Box} {old new : Rows} → o ≡ r.box → e ≡ span r b → x ≡ cond (ltb e r.far) e r.far → y ≡ cond (ltb e r.far) m r.at → Sets t (record { box = o; far = x; at = y }) old new → Sets t (held b m r) old new
chosen_held b m x y r s p u v w = record { here = w.here ∙ ap (λ (o : Box). record { box = o; far = x; at = y }) s ∙ held_as b m r p u v; others = w.others }

-- a partner is written after a box
pub sets_both : {t far at : ℕ} {b : Box} {old mid new : Rows} → NewBox t b old mid → Sets t (given (row_at mid t) at far) mid new → Sets t (record { box = b; far = far; at = at }) old new
sets_both {far = far} {at = at} p w =
    record {
      here = w.here ∙ ap (λ (o : Box). record { box = o; far = far; at = at }) p.here;
      others = λ s l n. w.others s l n ∙ p.others s l n;
    }

-- ---- the first k rows, held one after the other
pub holds_begin : {b : Box} {m : ℕ} (rows : Rows) → Holds 0 b m rows rows
holds_begin rows = record { first = λ t h. absurd (omega arith); others = λ t h l. refl }

pub holds_turn : {b : Box} {m t : ℕ} {old mid new : Rows} → Holds t b m old mid → t < 512 → Sets t (held b m (row_at mid t)) mid new → Holds (t + 1) b m old new
holds_turn {b} {m} {t} {old} {mid} {new} v h w =
    record { first = λ s l. go s l (eqb s t) refl; others = λ s l g. w.others s g (λ q. omega (arith, q)) ∙ v.others s (omega arith) g }
  where
    go : (s : ℕ) → s < t + 1 → (q : Bool) → eqb s t ≡ q → row_at new s ≡ held b m (row_at old s)
    go s l true q =
        let p = eqb-true s t q in
        ap (row_at new) p ∙ w.here ∙ ap (held b m) (v.others t (omega arith) h) ∙ ap (λ (x : ℕ). held b m (row_at old x)) (sym p)
    go s l false q =
        let p = eqb-false s t q in
        w.others s (omega arith) p ∙ v.first s (omega (arith, p))
