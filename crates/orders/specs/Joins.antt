-- Document 01, "Embedding a joining order": the pairs, and their check, refusal 6. "A joining order is a list of n-1 pairs": a flat list of node numbers, two for each pair.
use Rattle.std.specs.Prelude.{◌≡◌, Bool, cond, not, ◌||◌, List, ℕ, ◌+◌, ◌-◌, ◌*◌, ◌/◌, ◌<◌, min, eqb, ltb, leb, ℤ, length, get_or, Option, Some, None, Ok}
use Rattle.lists.specs.First.{first, any}
use Rattle.plane.specs.Refusals.{Checked, refusal, refuse_if, and_then}
use Rattle.plane.specs.Sinks.{check_sinks}

-- the two nodes of pair i
abbrev pub left : List ℕ → ℕ → ℕ
left js i = get_or js (2 * i) 0

abbrev pub right : List ℕ → ℕ → ℕ
right js i = get_or js (2 * i + 1) 0

-- the first k entries name node x
abbrev pub named : List ℕ → ℕ → ℕ → Bool
named js k x = any (λ j. eqb (get_or js j 0) x) k

-- "Each pair names two different nodes with smaller numbers than its own .. The first pair to break this, or to name a node again, is the bad one": pair i makes node n + i
abbrev pub bad_pair : ℕ → List ℕ → ℕ → Bool
bad_pair n js i =
    eqb (left js i) (right js i) ||
    (leb (n + i) (left js i) ||
    (leb (n + i) (right js i) ||
    (named js (2 * i) (left js i) ||
    named js (2 * i) (right js i))))

-- (where there is none, n - 1)
abbrev pub first_bad : ℕ → List ℕ → ℕ
first_bad n js = first (bad_pair n js) 0 (n - 1)

-- the same, or none
abbrev pub bad_at : ℕ → List ℕ → Option ℕ
bad_at n js = cond (ltb (first_bad n js) (n - 1)) (Some (first_bad n js)) None

-- "wrong count: smaller of given and n-1; else first bad pair"; "only whole pairs count as given"
unfoldable pub check_joins : ℕ → List ℕ → Checked
check_joins n js =
    refuse_if (not (eqb (length js) (2 * (n - 1)))) (refusal 6 (Some (min (length js / 2) (n - 1))))
    (refuse_if (ltb (first_bad n js) (n - 1)) (refusal 6 (Some (first_bad n js)))
    (Ok tt))

-- refusals 1 to 4, 15 and 6
unfoldable pub check_order : List ℤ → List ℤ → List ℕ → List ℕ → Checked
check_order xs ys delays js = and_then (check_sinks 512 xs ys delays) (check_joins (length xs) js)

-- what is accepted, and nothing else is (proofs/Accepted): the count, two different lower nodes in each pair, no node named twice
pub record Valid (n : ℕ) (js : List ℕ) : Type 0 where
  pub count : length js ≡ 2 * (n - 1)
  pub differ : (i : ℕ) → i < n - 1 → left js i ≡ right js i → ⊥
  pub low_left : (i : ℕ) → i < n - 1 → left js i < n + i
  pub low_right : (i : ℕ) → i < n - 1 → right js i < n + i
  pub once : (i j : ℕ) → i < j → j < 2 * (n - 1) → get_or js i 0 ≡ get_or js j 0 → ⊥
