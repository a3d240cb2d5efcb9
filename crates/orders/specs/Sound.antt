-- For the code alone: what the checks leave, and what is done then.
use Rattle.std.specs.Prelude.{List, ℕ, ◌≤◌, ◌<◌, ℤ, length}
use Rattle.plane.specs.Sinks.{sinks_at, Fitting}
use Rattle.plane.specs.declared.sinks.Sinks as lent
use Rattle.orders.specs.Joins.{Valid}
use Rattle.orders.specs.Nodes.{total}

pub record Ordered (n : ℕ) (js : List ℕ) : Type 0 where
  pub some : 0 < n
  pub few : n ≤ 512
  pub valid : Valid n js

-- sinks and joins that the code can embed: all its numbers hold what they must. What a call's check accepts is such (proofs/Bounded, `sound`)
pub record Sound (xs ys : List ℤ) (delays js : List ℕ) : Type 0 where
  pub sinks : Fitting xs ys delays
  pub joins : Ordered (length xs) js
  pub low : total (sinks_at xs ys delays) js < 4294967296

abbrev pub SoundFor : lent.Sinks → List ℕ → Type 0
SoundFor s js = Sound s.xs.now s.ys.now s.delays.now js
