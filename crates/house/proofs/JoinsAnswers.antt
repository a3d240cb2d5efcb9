-- The outcomes of a reader of sinks and joins, one law for each.
use mathlib.Core.Path.{◌≡◌, refl, ◌∙◌}
use mathlib.Core.List.{List}
use Prim.Native.Nat.{ℕ, ◌-◌, ◌*◌, ◌/◌, ◌≤◌, ◌<◌, min}
use native.Mathlib.Omega.{arith}
use borrow.Author.Tests.{ne_eqb}
use Rattle.std.specs.Prelude.{Ok, Err}
use lib.IntN.{ℤ}
use lib.ListN.{length}
use Rattle.lists.specs.Grow.{front}
use Rattle.plane.specs.Said.{Said, if_answered}
use Rattle.plane.specs.Refusals.{Checked, and_then}
use Rattle.plane.specs.declared.refusal.Refusal.TheVariants.{Joins}
use Rattle.orders.specs.Joins.{check_joins}
use Rattle.house.specs.Writing.{room_for}
use Rattle.house.specs.Reading.{ReadsSinks, ReadsJoins}

and_ok : (c : Checked) → and_then c (Ok tt) ≡ c
and_ok (Ok u) = refl
and_ok (Err r) = refl

module _ {fx fy : List ℤ} {fj : List ℕ} {xs ys : List ℤ} {js : List ℕ} where
  pub joins_read : {said : Said ℕ} {xs' ys' : List ℤ} {js' : List ℕ} → room_for (length fj) (length js) ≡ Ok tt → ReadsSinks (Ok tt) fx fy xs ys said xs' ys' → js' ≡ front (if_answered said fj) js → ReadsJoins (Ok tt) fx fy fj xs ys js said xs' ys' js'
  joins_read {said} {xs'} {ys'} {js'} e s q = record { answers = s.answers ∙ rw (e, and_ok); writes_x = s.writes_x; writes_y = s.writes_y; writes_j = q }

-- more node numbers than 512 sinks have
pub too_many_pairs : (n : ℕ) (js : List ℕ) (m : ℕ) → length js ≡ m → 0 < n → n ≤ 512 → 1022 < m → Err (Joins (n - 1)) ≡ check_joins n js
unfolding check_joins
too_many_pairs n js m e h l g =
    let z : length js ≡ 2 * (n - 1) → ⊥ = λ q. omega arith in
    let k : min (length js / 2) (n - 1) ≡ n - 1 = omega arith in
    simp (ne_eqb (length js) (2 * (n - 1)) z, k)
