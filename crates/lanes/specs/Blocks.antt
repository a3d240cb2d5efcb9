-- For the code alone: subsets in blocks of eight, which differ in the three lowest sinks. The splits of a block are examined together: the 27 ways to deal three sinks to the first part, the second part and neither are its lanes.
use Rattle.std.specs.Prelude.{◌≡◌, ℕ, zero, suc, ◌+◌, ◌-◌, ◌*◌, ◌^◌, ◌≤◌, ◌<◌, min, length, get_or}
use mathlib.Core.List.{List, [], ◌∷◌, ◌++◌, foldl}
use Rattle.std.specs.Int.Count.{ones}
use Rattle.subsets.specs.Subsets.{keep_if, splits, within}
use Rattle.subsets.specs.Square.{held}
use Rattle.subsets.specs.Table.{blank_of}

-- what lane k deals to the first part and to the second; the lanes that deal the same sinks stand side by side
abbrev pub to_first : List ℕ
to_first = 0 ∷ 1 ∷ 2 ∷ 3 ∷ 4 ∷ 5 ∷ 6 ∷ 7 ∷ 0 ∷ 1 ∷ 2 ∷ 3 ∷ 0 ∷ 1 ∷ 4 ∷ 5 ∷ 0 ∷ 2 ∷ 4 ∷ 6 ∷ 0 ∷ 1 ∷ 0 ∷ 2 ∷ 0 ∷ 4 ∷ 0 ∷ []

abbrev pub to_second : List ℕ
to_second = 7 ∷ 6 ∷ 5 ∷ 4 ∷ 3 ∷ 2 ∷ 1 ∷ 0 ∷ 3 ∷ 2 ∷ 1 ∷ 0 ∷ 5 ∷ 4 ∷ 1 ∷ 0 ∷ 6 ∷ 4 ∷ 2 ∷ 0 ∷ 1 ∷ 0 ∷ 2 ∷ 0 ∷ 4 ∷ 0 ∷ 0 ∷ []

-- the low sinks whose entries stand in the two rows of a block; the last lane of a row is one that nobody looks at
abbrev pub in_rows : List ℕ
in_rows = (to_first ++ 0 ∷ []) ++ (to_second ++ 0 ∷ [])

-- the lanes that deal the low sinks l begin here, and are so many
abbrev pub begins : ℕ → ℕ
begins l = get_or (26 ∷ 20 ∷ 22 ∷ 8 ∷ 24 ∷ 12 ∷ 16 ∷ 0 ∷ []) l 0

abbrev pub counts : ℕ → ℕ
counts l = get_or (1 ∷ 2 ∷ 2 ∷ 4 ∷ 2 ∷ 4 ∷ 4 ∷ 8 ∷ []) l 0

-- the least of v and of f over a list
abbrev pub least_with : (ℕ → ℕ) → ℕ → List ℕ → ℕ
least_with f v l = foldl (λ (w a : ℕ). min w (f a)) v l

-- what the split of the high sinks h into a and the rest comes to in lane k, by the table
abbrev pub in_lane : List ℕ → ℕ → ℕ → ℕ → ℕ
in_lane t h k a = get_or t (8 * a + get_or to_first k 0) 0 + get_or t (8 * (h - a) + get_or to_second k 0) 0

-- the least of lane k over all splits of the high sinks
abbrev pub lane_least : List ℕ → ℕ → ℕ → ℕ
lane_least t h k = least_with (in_lane t h k) 4294967295 (splits h)

pub record Lanes (t : List ℕ) (h : ℕ) (sums : List ℕ) : Type 0 where
  pub count : length sums ≡ 28
  pub least : (k : ℕ) → k < 27 → get_or sums k 0 ≡ lane_least t h k

-- the parts of m up to k but the empty one, in falling order
unfoldable pub parts_to : ℕ → ℕ → List ℕ
parts_to m zero = []
parts_to m (suc k) = keep_if (within (suc k) m) (suc k) (parts_to m k)

-- what the split of s into p and the rest comes to, by the table
abbrev pub split_off_lane : List ℕ → ℕ → ℕ → ℕ
split_off_lane t s p = get_or t (s - p) 0 + get_or t p 0

-- two numbers of the list can be added up
abbrev pub Modest : List ℕ → Type 0
Modest rows = (i : ℕ) → get_or rows i 0 < 2147483648

-- one turn of the lanes
pub record Meets (rows : List ℕ) (a b : ℕ) (sums sums' : List ℕ) : Type 0 where
  pub lanes : (k : ℕ) → k < 28 → get_or sums' k 0 ≡ min (get_or sums k 0) (get_or rows (a + k) 0 + get_or rows (b + k) 0)

-- all turns
pub record Summed (rows : List ℕ) (h : ℕ) (sums sums' : List ℕ) : Type 0 where
  pub lanes : (k : ℕ) → k < 28 → get_or sums' k 0 ≡ least_with (λ (a : ℕ). get_or rows (56 * a + k) 0 + get_or rows (56 * (h - a) + 28 + k) 0) (get_or sums k 0) (splits h)

-- each high set below m has two rows: what the table says of the first part by lane, and of the second
pub record Dealt (t : List ℕ) (m : ℕ) (rows : List ℕ) : Type 0 where
  pub first : (h k : ℕ) → 0 < h → h < m → k < 27 → get_or rows (56 * h + k) 0 ≡ get_or t (8 * h + get_or to_first k 0) 0
  pub second : (h k : ℕ) → 0 < h → h < m → k < 27 → get_or rows (56 * h + 28 + k) 0 ≡ get_or t (8 * h + get_or to_second k 0) 0

-- the rows of h are put in, those before are as they were, and all can be added up
pub record Deals (t : List ℕ) (h : ℕ) (rows rows' : List ℕ) : Type 0 where
  pub here : Dealt t h rows → Dealt t (h + 1) rows'
  pub modest : Modest rows → ((l : ℕ) → l < 8 → get_or t (8 * h + l) 0 < 2147483648) → Modest rows'

-- no diameter of n sinks is above 6,000,000
abbrev pub Short : ℕ → List ℕ → Type 0
Short n ds = (m : ℕ) → m < 2 ^ n → held ds m ≤ 6000000

-- no entry below m is more than its joins can come to
abbrev pub Within : ℕ → List ℕ → Type 0
Within m t = (i : ℕ) → i < m → get_or t i 0 ≤ 6000000 * (ones i - 1)

-- the entries from m on, of n sinks, are blank
abbrev pub Blank : ℕ → ℕ → List ℕ → Type 0
Blank n m t = (i : ℕ) → m ≤ i → i < 2 ^ n → get_or t i 0 ≡ blank_of i

-- what the blocks of n sinks are filled in from: the first block is done
pub record Begun (n : ℕ) (ds t : List ℕ) : Type 0 where
  pub many : 3 ≤ n
  pub few : n ≤ 12
  pub room : 2 ^ n ≤ length t
  pub short : Short n ds
  pub within : Within 8 t
  pub blank : Blank n 8 t

-- the block of the high set h: its diameters are short, and its entries from l on are blank
pub record Block (ds t : List ℕ) (h l : ℕ) : Type 0 where
  pub some : 0 < h
  pub few : h < 512
  pub room : 8 * h + 8 ≤ length t
  pub short : (k : ℕ) → k < 8 → held ds (8 * h + k) ≤ 6000000
  pub within : Within (8 * h + l) t
  pub blank : (k : ℕ) → l ≤ k → k < 8 → get_or t (8 * h + k) 0 ≡ blank_of (8 * h + k)

-- what it is filled in from: the blocks before it are done
pub record Opened (ds t rows : List ℕ) (h : ℕ) : Type 0 where
  pub block : Block ds t h 0
  pub room_rows : 56 * h ≤ length rows
  pub modest : Modest rows
  pub dealt : Dealt t h rows

-- what its entry of the low sinks l is filled in from: those before it are done
pub record Next (ds t sums : List ℕ) (h l : ℕ) : Type 0 where
  pub block : Block ds t h l
  pub lanes : Lanes t h sums
