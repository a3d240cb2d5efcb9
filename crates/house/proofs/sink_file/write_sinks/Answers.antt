use mathlib.Core.Path.{◌≡◌, sym, ◌∙◌}
use Rattle.std.proofs.Common.{rules}
use Rattle.std.specs.Prelude.{Err}
use Rattle.plane.specs.Sinks.{prompt}
use Rattle.plane.proofs.Checks.{accepted, check_prompt}
use Rattle.house.proofs.Answers.{has_room, no_room, did_write}
use Rattle.house.proofs.Lengths.{length-sink_file}
use Rattle.house.proofs.sink_file.write_sinks.Goals as goal

pub returns-in_err-check_places : goal.returns-in_err-check_places
returns-in_err-check_places c =
    let e = check_prompt 512 c.args.xs.now c.args.ys.now in
    search rules

pub returns-in_err-room : goal.returns-in_err-room
returns-in_err-room c =
    let a = c.args in
    let l = length-sink_file a.xs.now a.ys.now in
    let r : c.from_residual-in_err-room.result ≡ Err c.in_err-room.field-0.0 = search rules in
    rw r (no_room (check_prompt 512 _ _ ∙ sym c.check_places.ensures ∙ c.in_ok-check_places.was) (rw l (sym c.room.ensures ∙ c.in_err-room.was)))

pub put_sinks-requires : goal.put_sinks-requires
put_sinks-requires c =
    let a = c.args in
    let e = check_prompt 512 _ _ ∙ sym c.check_places.ensures ∙ c.in_ok-check_places.was in
    let m = accepted 512 a.xs.now a.ys.now (prompt a.xs.now) e in
    let n = c.new-page.ensures in
    (has_room e n.empty n.holds (rw (length-sink_file a.xs.now a.ys.now) (sym c.room.ensures ∙ c.in_ok-room.was)), m.ranged.alike, m.few)

pub returns : goal.returns
returns c =
    let a = c.args in
    let e = check_prompt 512 _ _ ∙ sym c.check_places.ensures ∙ c.in_ok-check_places.was in
    let n = c.new-page.ensures in
    did_write e n.empty n.holds (rw (length-sink_file a.xs.now a.ys.now) (sym c.room.ensures ∙ c.in_ok-room.was)) c.put_sinks.ensures c.len.ensures (search rules)
