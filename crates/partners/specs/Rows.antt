-- For the code alone: what is kept beside each live node, packed as they are.
use Rattle.std.specs.Prelude.{◌≡◌, cond, List, Option, ℕ, suc, ◌+◌, ◌-◌, ◌≤◌, ◌<◌, ltb, eqb, length, get_or, position}
use Rattle.measures.specs.Measures.{kept_as}
use Rattle.measures.specs.Boxes.{hull_of, diam_of, blank}
use Rattle.measures.specs.declared.boxes.Box.{Box}
use Rattle.partners.specs.declared.pair.Near.{Near}
use Rattle.partners.specs.declared.pair.Pair.{Pair}
use Rattle.partners.specs.declared.best.Choice.{Choice}
use Rattle.partners.specs.declared.rows.Rows.{Rows}
use Rattle.partners.specs.Closest.{pair}
use Rattle.orders.specs.Table.{box_at}
use Rattle.partners.specs.Boxes.{Upright, reach}
use Rattle.partners.specs.Live.{Rising, Below}

-- the box of a live node, a partner among the later ones, and how far that one is
pub record Row : Type 0 where
  pub box : Box
  pub far : ℕ
  pub at : ℕ

-- row t
abbrev pub row_at : Rows → ℕ → Row
row_at rows t =
    record {
      box = record { lu = get_or rows.low_u t (kept_as 0); hu = get_or rows.high_u t (kept_as 0); lv = get_or rows.low_v t (kept_as 0); hv = get_or rows.high_v t (kept_as 0) };
      far = get_or rows.far t 0;
      at = get_or rows.partner t 0;
    }

-- every row is blank
abbrev pub AllBlank : Rows → Type 0
AllBlank rows = (t : ℕ) → t < 512 → row_at rows t ≡ record { box = blank; far = 0; at = 0 }

-- the diameter of a row's union with a box
unfoldable pub span : Row → Box → ℕ
span r b = diam_of (hull_of r.box b)

-- a row with another partner
abbrev pub given : Row → ℕ → ℕ → Row
given r j w = record { box = r.box; far = w; at = j }

-- a row held against node m with box b: m is its partner only where that is less far
unfoldable pub held : Box → ℕ → Row → Row
held b m r = cond (ltb (span r b) r.far) (given r m (span r b)) r

-- row t is now r, and the others are as they were
pub record Sets (t : ℕ) (r : Row) (old new : Rows) : Type 0 where
  pub here : row_at new t ≡ r
  pub others : (s : ℕ) → s < 512 → (s ≡ t → ⊥) → row_at new s ≡ row_at old s

-- where row or node t came from, once that at a has left and those after it moved up
unfoldable pub skip : ℕ → ℕ → ℕ
skip a t = cond (ltb t a) t (suc t)

-- the same, once both of a pair have left
abbrev pub skip_both : Choice → ℕ → ℕ
skip_both c t = skip c.with (skip c.row t)

-- of the numbers of a list the least is d
pub record Least (ds : List ℕ) (d : ℕ) : Type 0 where
  pub place : ℕ
  pub inside : place < length ds
  pub is : get_or ds place 0 ≡ d
  pub least : (s : ℕ) → s < length ds → d ≤ get_or ds s 0

-- of the numbers of a list, number a is the first of the least
pub record FirstLeast (ds : List ℕ) (a : ℕ) : Type 0 where
  pub one : a < length ds
  pub least : (s : ℕ) → s < length ds → get_or ds a 0 ≤ get_or ds s 0
  pub first : (s : ℕ) → s < a → get_or ds a 0 < get_or ds s 0

-- the first k rows are held against node m with box b, and the others are as they were
pub record Holds (k : ℕ) (b : Box) (m : ℕ) (old new : Rows) : Type 0 where
  pub first : (t : ℕ) → t < k → row_at new t ≡ held b m (row_at old t)
  pub others : (t : ℕ) → k ≤ t → t < 512 → row_at new t ≡ row_at old t

-- row t's box is now b, and the other rows are as they were
pub record NewBox (t : ℕ) (b : Box) (old new : Rows) : Type 0 where
  pub here : (row_at new t).box ≡ b
  pub others : (s : ℕ) → s < 512 → (s ≡ t → ⊥) → row_at new s ≡ row_at old s

-- of n entries, each of a run is now what is made of the one so many later, and the others are as they were
pub record Shifts {A : Type 0} (make : A → A) (n by from to : ℕ) (old new : ℕ → A) : Type 0 where
  pub before : (t : ℕ) → t < from → new t ≡ old t
  pub moved : (t : ℕ) → from ≤ t → t < to → new t ≡ make (old (t + by))
  pub after : (t : ℕ) → to ≤ t → t < n → new t ≡ old t

-- rows move up, held against node m with box b; live nodes move up as they are
abbrev pub RowsUp : ℕ → ℕ → ℕ → Box → ℕ → Rows → Rows → Type 0
RowsUp by from to b m old new = Shifts (held b m) 512 by from to (row_at old) (row_at new)

abbrev pub NodesUp : ℕ → ℕ → ℕ → List ℕ → List ℕ → Type 0
NodesUp by from to old new = Shifts (λ x. x) (length old) by from to (λ t. get_or old t 0) (λ t. get_or new t 0)

-- no row changed
abbrev pub SameRows : Rows → Rows → Type 0
SameRows old new = (s : ℕ) → s < 512 → row_at new s ≡ row_at old s

-- beside each row of a run stands the diameter of its union with a box, and no row changed
pub record Spans (from to : ℕ) (b : Box) (old new : Rows) : Type 0 where
  pub here : (t : ℕ) → from ≤ t → t < to → get_or new.aside t 0 ≡ span (row_at old t) b
  pub same : SameRows old new

-- of k rows, a is the first of those whose partner is nearest
pub record Lowest (rows : Rows) (k a : ℕ) : Type 0 where
  pub one : a < k
  pub least : (s : ℕ) → s < k → (row_at rows a).far ≤ (row_at rows s).far
  pub first : (s : ℕ) → s < a → (row_at rows a).far < (row_at rows s).far

-- of the live nodes after row a, the first of the nearest
pub record NearestAfter (rows : Rows) (live : List ℕ) (a : ℕ) (r : Near) : Type 0 where
  pub place : ℕ
  pub later : a < place
  pub inside : place < length live
  pub names : r.at ≡ get_or live place 0
  pub far : r.far ≡ span (row_at rows a) (row_at rows place).box
  pub least : (t : ℕ) → a < t → t < length live → r.far ≤ span (row_at rows a) (row_at rows t).box
  pub first : (t : ℕ) → a < t → t < place → r.far < span (row_at rows a) (row_at rows t).box

-- what is kept beside each of the live nodes is right: its box, and a partner that is no farther than any later live node, and no later than one as far.
-- The partner may be gone: then it is nearer than what is left.
pub record Right (bs : List Box) (live : List ℕ) (m : ℕ) (row : ℕ → Row) : Type 0 where
  pub box : (t : ℕ) → t < length live → (row t).box ≡ box_at bs (get_or live t 0)
  pub near : (s t : ℕ) → s < t → t < length live → (row s).far ≤ reach bs (get_or live s 0) (get_or live t 0)
  pub first : (s t : ℕ) → s < t → t < length live → (row s).far ≡ reach bs (get_or live s 0) (get_or live t 0) → (row s).at ≤ get_or live t 0
  pub named : (t : ℕ) → suc t < length live → ((row t).far ≡ reach bs (get_or live t 0) (row t).at) × (get_or live t 0 < (row t).at) × ((row t).at < m)

-- where node x stands among the live ones, if it does
abbrev pub place_of : List ℕ → ℕ → Option ℕ
place_of live x = position (λ a. eqb a x) live

-- live nodes beside which what is kept is right
pub record Caching (bs : List Box) (live : List ℕ) (rows : Rows) : Type 0 where
  pub top : ℕ
  pub right : Right bs live top (row_at rows)
  pub rising : Rising live
  pub low : Below top live
  pub upright : Upright top bs
  pub few_nodes : top ≤ 1023
  pub two : 2 ≤ length live
  pub few : length live ≤ 512

-- the two nodes at their places
abbrev pub pair_at : List ℕ → Choice → Pair
pair_at live c = pair (get_or live c.row 0) (get_or live c.with 0)

-- two places in turn, and what is kept is right as before
pub record Picks (bs : List Box) (live : List ℕ) (rows : Rows) (r : Choice) (rows' : Rows) : Type 0 where
  pub up : r.row < r.with
  pub inside : r.with < length live
  pub right : (m : ℕ) → Below m live → Right bs live m (row_at rows) → Right bs live m (row_at rows')

-- node m with box b comes after k rows: they are as they were, but the last has no other partner
pub record Seated (k : ℕ) (b : Box) (m : ℕ) (rows rows' : Rows) : Type 0 where
  pub same : (t : ℕ) → t + 1 < k → row_at rows' t ≡ row_at rows t
  pub gives : (t : ℕ) → t + 1 ≡ k → row_at rows' t ≡ given (row_at rows t) m (span (row_at rows t) b)
  pub puts : (row_at rows' k).box ≡ b

-- node m with box b has entered after k rows: each was held against it, and the last has no other partner
pub record Entered (k : ℕ) (b : Box) (m : ℕ) (row row' : ℕ → Row) : Type 0 where
  pub holds : (t : ℕ) → t + 1 < k → row' t ≡ held b m (row t)
  pub gives : (t : ℕ) → t + 1 ≡ k → row' t ≡ given (row t) m (span (row t) b)
  pub puts : (row' k).box ≡ b

-- the two nodes of a pair have left with their rows, those after them moved up, and node m with box b comes last
pub record Closed (c : Choice) (b : Box) (m : ℕ) (live live' : List ℕ) (rows rows' : Rows) : Type 0 where
  pub nodes : (t : ℕ) → t + 2 < length live → get_or live' t 0 ≡ get_or live (skip_both c t) 0
  pub last : get_or live' (length live - 2) 0 ≡ m
  pub enters : Entered (length live - 2) b m (λ t. row_at rows (skip_both c t)) (row_at rows')
