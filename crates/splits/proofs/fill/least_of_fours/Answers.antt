use mathlib.Core.Path.{ap, ap₂, ◌∙◌}
use Prim.Native.Nat.{ℕ, ◌-◌, min}
use native.Mathlib.Omega.{arith}
use lib.Bits.{bit_and, and_self}
use Rattle.lanes.specs.Sums.{apart, beyond, three_of}
use Rattle.splits.proofs.Fours.{fours_end, fours_inside, fours_start, fours_turn}
use Rattle.splits.proofs.fill.least_of_fours.Goals as goal

pub three-least-requires : goal.three-least-requires
three-least-requires c =
    let a = c.args in
    let k = fours_inside a.table.now a.s a.second a.third a.last c.requires.0 c.requires.1 (beyond (beyond (beyond a.s))) (and_self (beyond (beyond (beyond a.s)))) in
    (omega (arith, k), c.requires.2)

pub loop-other-init : goal.loop-other-init
loop-other-init c =
    let a = c.args in
    let o = c.of-other-items.ensures in
    rw c.into_iter-other-iterator.ensures.into_iter_gives
    (o.0, rw o.1 (fours_start a.table.now a.s a.second a.third a.last c.requires.0 c.requires.1 c.three-least.result c.three-least.ensures.0 c.three-least.ensures.1))

pub loop-other-preserved : goal.loop-other-preserved
loop-other-preserved c =
    let a = c.args in
    let l = c.loop-other in
    let i = l.invariant in
    let k = l.other-iterator.next in
    let s = c.in-Some.ensures.steps in
    let three = c.three-with.ensures.1 ∙ ap (λ (x : ℕ). three_of a.table.now a.s x a.second a.third) s.1 in
    let two = c.parts.ensures.1 ∙ ap (apart a.table.now a.s) s.1 in (
      s.2 ∙ i.0,
      fours_turn a.table.now a.s a.second a.third a.last c.requires.0 c.requires.1 k l.least c.min-least.result c.next.new.self.next i.1 s.0 (s.3 ∙ ap (bit_and (k - 1)) i.0)
          (c.min-least.ensures ∙ ap (min l.least) (c.min.ensures ∙ ap₂ min three two)),
    )

pub returns : goal.returns
returns c =
    let a = c.args in
    let l = c.loop-other in
    (l.invariant.1.1, fours_end a.table.now a.s a.second a.third a.last c.requires.0 c.requires.1 l.other-iterator.next l.least l.invariant.1 c.in-None.ensures.steps)
