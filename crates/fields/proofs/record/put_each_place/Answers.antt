use mathlib.Core.Path.{◌≡◌}
use native.Mathlib.Omega.{arith}
use lib.IntN.{pos}
use lib.ListN.{length, get_or}
use mir.Facts.{to_z-of_z}
use mir.Syntax.{w32}
use mir.Val.{SFits}
use Rattle.std.proofs.Common.{rules}
use Rattle.fields.specs.Fields.{place, places, records}
use Rattle.fields.proofs.Values.{length-place}
use Rattle.fields.proofs.Stores.{record_room, record_more}
use Rattle.text.proofs.Written.{nothing, room_here, room_then, then}
use Rattle.fields.proofs.record.put_each_place.Goals as goal

pub loop-i-init : goal.loop-i-init
unfolding records
loop-i-init c = nothing

pub put-requires : goal.put-requires
unfolding places
put-requires c =
    let a = c.args in
    let f : SFits w32 (get_or a.xs.now c.loop-i.i (pos 0)) = search rules in
    rw (to_z-of_z f) (room_here _ (record_room (place a.xs.now a.ys.now) _ 8 (length-place a.xs.now a.ys.now) c.loop-i-test.true c.requires.0 c.loop-i.invariant))

pub put-requires-in-loop-i : goal.put-requires-in-loop-i
unfolding places
put-requires-in-loop-i c =
    let a = c.args in
    let f : SFits w32 (get_or a.xs.now c.loop-i.i (pos 0)) = search rules in
    let g : SFits w32 (get_or a.ys.now c.loop-i.i (pos 0)) = search rules in
    rw (to_z-of_z g) (room_then (rw (to_z-of_z f) at c.put.ensures) (record_room (place a.xs.now a.ys.now) _ 8 (length-place a.xs.now a.ys.now) c.loop-i-test.true c.requires.0 c.loop-i.invariant))

pub loop-i-preserved : goal.loop-i-preserved
loop-i-preserved c =
    let a = c.args in
    let f : SFits w32 (get_or a.xs.now c.loop-i.i (pos 0)) = search rules in
    let g : SFits w32 (get_or a.ys.now c.loop-i.i (pos 0)) = search rules in
    record_more (place a.xs.now a.ys.now) c.loop-i.invariant (then (rw (to_z-of_z f) at c.put.ensures) (rw (to_z-of_z g) at c.put-in-loop-i.ensures))

pub returns : goal.returns
unfolding places
returns c = let e : c.loop-i.i ≡ length c.args.xs.now = omega arith in rw e at c.loop-i.invariant
