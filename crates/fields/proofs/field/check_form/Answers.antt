use mathlib.Core.Path.{◌≡◌, sym, ◌∙◌}
use Prim.Native.Nat.{◌+◌, ◌≤◌}
use native.Mathlib.Omega.{arith}
use Rattle.std.proofs.Common.{rules, Err}
use Rattle.fields.specs.declared.tag.Tag.TheVariants.{Version}
use Rattle.fields.specs.Tags.{tag_number}
use Rattle.fields.specs.Form.{form}
use Rattle.fields.proofs.Tags.{few, all_long, in_order}
use Rattle.fields.proofs.Scan.{scan_begin, scan_next, scan_bad, scan_more, scan_end}
use Rattle.fields.proofs.field.check_form.Goals as goal

pub loop-tag-init : goal.loop-tag-init
loop-tag-init c = scan_begin _ _

pub returns-in_err-at : goal.returns-in_err-at
returns-in_err-at c =
    let i = c.loop-tag.tag-index in
    let f = few c.args.last in
    let l = all_long c.from.result (omega arith) in
    let o = in_order c.from.result i Version (omega arith) (omega arith) in
    let h : i + 1 ≤ tag_number c.args.last = omega arith in
    let s : Err c.in_err-at.field-0.0 ≡ form (tag_number c.args.last) c.args.file.now = scan_bad _ _ _ _ c.loop-tag.invariant _ h (rw o at (sym c.read_field.ensures ∙ c.in_err-at.was)) in
    search rules

pub loop-tag-preserved : goal.loop-tag-preserved
loop-tag-preserved c =
    let i = c.loop-tag.tag-index in
    let f = few c.args.last in
    let l = all_long c.from.result (omega arith) in
    let o = in_order c.from.result i Version (omega arith) (omega arith) in
    let h : i + 1 ≤ tag_number c.args.last = omega arith in
    scan_next _ _ _ _ c.loop-tag.invariant _ h (rw o at (sym c.read_field.ensures ∙ c.in_ok-at.was))

pub returns-then-at-file : goal.returns-then-at-file
returns-then-at-file c =
    let f = few c.args.last in
    let l = all_long c.from.result (omega arith) in
    scan_more _ _ _ _ c.loop-tag.invariant (omega arith) c.if-at-file.true

pub returns-else-at-file : goal.returns-else-at-file
returns-else-at-file c =
    let f = few c.args.last in
    let l = all_long c.from.result (omega arith) in
    scan_end _ _ _ _ c.loop-tag.invariant (omega arith) c.if-at-file.false
