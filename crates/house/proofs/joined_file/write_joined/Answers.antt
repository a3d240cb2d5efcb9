use mathlib.Core.Path.{◌≡◌, sym, ◌∙◌}
use native.Mathlib.Omega.{arith}
use Rattle.std.proofs.Common.{rules}
use Rattle.std.specs.Prelude.{Err}
use Rattle.orders.proofs.Bounded.{order-sound}
use Rattle.house.proofs.Answers.{has_room, no_room, did_write}
use Rattle.house.proofs.Lengths.{length-joined_file}
use Rattle.house.proofs.joined_file.write_joined.Goals as goal

pub overflow_mul-xs : goal.overflow_mul-xs
overflow_mul-xs c = omega (arith, (order-sound _ _ _ _ (sym c.check_prompt.ensures ∙ c.in_ok-check_prompt.was)).joins.few)

pub overflow_add-xs : goal.overflow_add-xs
overflow_add-xs c = omega (arith, (order-sound _ _ _ _ (sym c.check_prompt.ensures ∙ c.in_ok-check_prompt.was)).joins.few)

pub returns-in_err-room : goal.returns-in_err-room
returns-in_err-room c =
    let a = c.args in
    let e = sym c.check_prompt.ensures ∙ c.in_ok-check_prompt.was in
    let s = (order-sound _ _ _ _ e).joins in
    let l = length-joined_file a.xs.now a.ys.now a.js.now s.valid s.some in
    let r : c.from_residual-in_err-room.result ≡ Err c.in_err-room.field-0.0 = search rules in
    rw r (no_room e (rw l (sym c.room.ensures ∙ c.in_err-room.was)))

pub put_joined-requires : goal.put_joined-requires
put_joined-requires c =
    let a = c.args in
    let e = sym c.check_prompt.ensures ∙ c.in_ok-check_prompt.was in
    let o = order-sound _ _ _ _ e in
    let n = c.new-page.ensures in
    (o, has_room e n.empty n.holds (rw (length-joined_file a.xs.now a.ys.now a.js.now o.joins.valid o.joins.some) (sym c.room.ensures ∙ c.in_ok-room.was)))

pub returns : goal.returns
returns c =
    let a = c.args in
    let e = sym c.check_prompt.ensures ∙ c.in_ok-check_prompt.was in
    let s = (order-sound _ _ _ _ e).joins in
    let n = c.new-page.ensures in
    did_write e n.empty n.holds (rw (length-joined_file a.xs.now a.ys.now a.js.now s.valid s.some) (sym c.room.ensures ∙ c.in_ok-room.was)) c.put_joined.ensures c.len.ensures (search rules)
