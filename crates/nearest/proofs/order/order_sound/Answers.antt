use Prim.Native.Nat.{ℕ}
use mathlib.Core.List.{List}
use mathlib.Core.Path.{◌≡◌}
use native.Mathlib.Omega.{arith}
use lib.ListN.{length, take, replicate}
use lib.Seq.{length-take-le}
use Rattle.nearest.proofs.Going.{going_begin, going_end, going_turn}
use Rattle.nearest.proofs.order.order_sound.Goals as goal

abbrev zeros-512 : List ℕ
zeros-512 = replicate 512 0

pub loop-i-init : goal.loop-i-init
loop-i-init c =
    let o = c.requires in
    let n = length c.args.sinks.now.xs.now in
    let e : length (take n zeros-512) ≡ n = length-take-le n zeros-512 o.few in
    going_begin n _ c.args.js.now c.put_sinks.ensures (rw e at c.begin.ensures) c.begin-2.ensures

pub loop-i-preserved : goal.loop-i-preserved
loop-i-preserved c =
    let o = c.requires in
    let l = c.loop-i in
    going_turn _ l.invariant (omega arith) (omega (arith, l.invariant.size, o.room)) (omega arith) c.round.ensures

pub returns : goal.returns
returns c = going_end c.loop-i.invariant (omega arith) c.requires.room
