-- Where a node stands in a rising list: of what is left of it, half goes with each look.
use mathlib.Core.Path.{◌≡◌}
use mathlib.Core.Logic.{⊎_elim}
use mathlib.Core.Bool.{false}
use mathlib.Core.List.{List}
use Prim.Native.Nat.{ℕ, ◌+◌, ◌≤◌, ◌<◌}
use native.Mathlib.Omega.{arith}
use borrow.Author.Tests.{eq-eqb, ne_eqb}
use lib.Dec.{eqb}
use lib.ListN.{length, get_or}
use Rattle.std.specs.Prelude.{None, Some}
use Rattle.lists.proofs.Tests.{or_lt}
use Rattle.partners.specs.Live.{Rising}
use Rattle.partners.specs.Rows.{place_of}
use Rattle.partners.proofs.Members.{rising_up}
use Rattle.partners.proofs.Placing.{position_some, position_none}

-- those before one place are lower than x, those from another on are not
pub record Halves (ls : List ℕ) (x lo hi : ℕ) : Type 0 where
  pub up : lo ≤ hi
  pub inside : hi ≤ length ls
  pub lower : (j : ℕ) → j < lo → get_or ls j 0 < x
  pub higher : (j : ℕ) → hi ≤ j → j < length ls → x ≤ get_or ls j 0

pub halves_begin : (ls : List ℕ) (x : ℕ) → Halves ls x 0 (length ls)
halves_begin ls x = record { up = omega arith; inside = omega arith; lower = λ j h. absurd (omega arith); higher = λ j h l. absurd (omega arith) }

module _ {ls : List ℕ} {x lo hi : ℕ} (mid : ℕ) (r : Rising ls) (v : Halves ls x lo hi) (h : mid < hi) where
  pub halves_more : get_or ls mid 0 < x → Halves ls x (mid + 1) hi
  halves_more l =
      record {
        up = omega arith;
        inside = v.inside;
        lower = λ j g. omega (arith, rising_up j mid r (omega arith) (omega (arith, v.inside)));
        higher = v.higher;
      }

  pub halves_less : lo ≤ mid → x ≤ get_or ls mid 0 → Halves ls x lo mid
  halves_less g l = record { up = g; inside = omega (arith, v.inside); lower = v.lower; higher = λ j k i. omega (arith, rising_up mid j r k i) }

-- ---- nothing is left
module _ (ls : List ℕ) (x : ℕ) {lo hi : ℕ} (v : Halves ls x lo hi) (e : hi ≤ lo) where
  before : (j : ℕ) → j < lo → eqb (get_or ls j 0) x ≡ false
  before j h = (let l = v.lower j h in ne_eqb (get_or ls j 0) x (λ q. omega arith))

  -- where all entries are lower than x, none is x
  pub halves_end : lo ≡ length ls → None ≡ place_of ls x
  halves_end l = position_none (λ a. eqb a x) ls (λ j h. before j (omega arith))

  pub halves_hit : lo < length ls → get_or ls lo 0 ≡ x → Some lo ≡ place_of ls x
  halves_hit h q = position_some (λ a. eqb a x) ls lo h before (eq-eqb (get_or ls lo 0) x q)

  pub halves_miss : Rising ls → (lo < length ls → get_or ls lo 0 ≡ x → ⊥) → None ≡ place_of ls x
  halves_miss r n = position_none (λ a. eqb a x) ls (λ j l. ⊎_elim (before j) (later j l) (or_lt j lo))
    where
      later : (j : ℕ) → j < length ls → lo ≤ j → eqb (get_or ls j 0) x ≡ false
      later j l g =
          let a = v.higher lo e (omega arith) in
          let b = rising_up lo j r g l in
          ne_eqb (get_or ls j 0) x (λ q. n (omega arith) (omega arith))
