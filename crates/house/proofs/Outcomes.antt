-- Two permitted outcomes of a public call coincide: one law for the three writers, one for the reader of sinks, one for the two readers of joins.
use mathlib.Core.Path.{◌≡◌, sym, ap, ◌∙◌}
use mathlib.Core.List.{List}
use Prim.Native.Nat.{ℕ}
use Rattle.std.specs.Prelude.{Result}
use lib.IntN.{ℤ}
use Rattle.lists.specs.Grow.{front}
use Rattle.plane.specs.Refusals.{Checked}
use Rattle.plane.specs.declared.refusal.Refusal.{Refusal}
use Rattle.plane.specs.Said.{Said, told, if_answered}
use Rattle.plane.proofs.Answered.{told_once}
use Rattle.house.specs.Writing.{Writes}
use Rattle.house.specs.Reading.{ReadsSinks, ReadsJoins}

pub record SameWritten (r r' : Result ℕ Refusal) (out out' : List ℕ) : Type 0 where
  pub said : r ≡ r'
  pub same_out : out ≡ out'

pub only_writes : (checked : Checked) (file out : List ℕ) {r r' : Result ℕ Refusal} {o o' : List ℕ} → Writes checked file out (told r) o → Writes checked file out (told r') o' → SameWritten r r' o o'
only_writes checked file out {r} {r'} p q =
    let e : told r ≡ told r' = p.answers ∙ sym q.answers in
    record { said = told_once r r' e; same_out = p.writes ∙ ap (λ (s : Said ℕ). front (if_answered s file) out) e ∙ sym q.writes }

pub record SameSinks (r r' : Result ℕ Refusal) (xs xs' ys ys' : List ℤ) : Type 0 where
  pub said : r ≡ r'
  pub same_x : xs ≡ xs'
  pub same_y : ys ≡ ys'

pub only_reads_sinks : (checked : Checked) (fx fy xs ys : List ℤ) {r r' : Result ℕ Refusal} {x x' y y' : List ℤ} → ReadsSinks checked fx fy xs ys (told r) x y → ReadsSinks checked fx fy xs ys (told r') x' y' → SameSinks r r' x x' y y'
only_reads_sinks checked fx fy xs ys {r} {r'} p q =
    let e : told r ≡ told r' = p.answers ∙ sym q.answers in
    record {
      said = told_once r r' e;
      same_x = p.writes_x ∙ ap (λ (s : Said ℕ). front (if_answered s fx) xs) e ∙ sym q.writes_x;
      same_y = p.writes_y ∙ ap (λ (s : Said ℕ). front (if_answered s fy) ys) e ∙ sym q.writes_y;
    }

pub record SameJoins (r r' : Result ℕ Refusal) (xs xs' ys ys' : List ℤ) (js js' : List ℕ) : Type 0 where
  pub said : r ≡ r'
  pub same_x : xs ≡ xs'
  pub same_y : ys ≡ ys'
  pub same_j : js ≡ js'

pub only_reads_joins : (checked : Checked) (fx fy : List ℤ) (fj : List ℕ) (xs ys : List ℤ) (js : List ℕ) {r r' : Result ℕ Refusal} {x x' y y' : List ℤ} {j j' : List ℕ} → ReadsJoins checked fx fy fj xs ys js (told r) x y j → ReadsJoins checked fx fy fj xs ys js (told r') x' y' j' → SameJoins r r' x x' y y' j j'
only_reads_joins checked fx fy fj xs ys js {r} {r'} p q =
    let e : told r ≡ told r' = p.answers ∙ sym q.answers in
    record {
      said = told_once r r' e;
      same_x = p.writes_x ∙ ap (λ (s : Said ℕ). front (if_answered s fx) xs) e ∙ sym q.writes_x;
      same_y = p.writes_y ∙ ap (λ (s : Said ℕ). front (if_answered s fy) ys) e ∙ sym q.writes_y;
      same_j = p.writes_j ∙ ap (λ (s : Said ℕ). front (if_answered s fj) js) e ∙ sym q.writes_j;
    }
