-- For the code alone: what the parts of a split of m come to, by the table.
use Rattle.std.specs.Prelude.{List, ◌≡◌, ℕ, ◌+◌, ◌-◌, ◌^◌, ◌<◌, min, get_or}
use Rattle.subsets.specs.Subsets.{lowest}

-- by the part with the lowest sink
abbrev pub sums : List ℕ → ℕ → ℕ → ℕ
sums t m a = get_or t a 0 + get_or t (m - a) 0

-- by the other part
abbrev pub apart : List ℕ → ℕ → ℕ → ℕ
apart t m b = get_or t (m - b) 0 + get_or t b 0

-- the least where y is the other part with two further sinks, with the one, and with the other
abbrev pub three_of : List ℕ → ℕ → ℕ → ℕ → ℕ → ℕ
three_of t m y second third = min (min (apart t m (y + third + second)) (apart t m (y + third))) (apart t m (y + second))

-- m without its lowest sink
abbrev pub beyond : ℕ → ℕ
beyond m = m - 2 ^ lowest m

-- a subset of three sinks or more: its second and third sink alone, and what is left without its first three
pub record Leading (m second third last : ℕ) : Type 0 where
  pub some : 0 < beyond m
  pub more : 0 < beyond (beyond m)
  pub is_second : second ≡ 2 ^ lowest (beyond m)
  pub is_third : third ≡ 2 ^ lowest (beyond (beyond m))
  pub is_last : last ≡ beyond (beyond (beyond m))
