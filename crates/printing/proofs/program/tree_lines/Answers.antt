use mathlib.Core.Path.{◌≡◌, refl}
use borrow.Author.Rules.{rules}
use native.Mathlib.Omega.{arith}
use lib.ListN.{length}
use Rattle.lines.specs.Lines.{too_long}
use Rattle.lines.proofs.Printing.{printed}
use Rattle.printing.proofs.ReadSinks.{taken_is, sinked, refused_is}
use Rattle.printing.proofs.Searched.{text_lines, text_long, text_refused}
use Rattle.printing.proofs.program.tree_lines.Goals.{in-Err, in-Ok}
use Rattle.printing.proofs.program.tree_lines.Goals as goal

pub too_long_line-requires : goal.too_long_line-requires
unfolding too_long
too_long_line-requires c = record { fits = search rules }

pub returns-then-input-gt32768 : goal.returns-then-input-gt32768
unfolding too_long
returns-then-input-gt32768 c =
    let w = c.too_long_line.ensures in
    let z : length c.new-page.result.out.now ≡ 49152 = search rules in
    rw (c.len.ensures, text_long c.args.input.now c.if-input-gt32768.true, ← c.new-page.ensures.holds) (printed w c.new-page.ensures.empty (omega (arith, w.ends)))

pub sinks_lines-requires : goal.sinks_lines-requires
sinks_lines-requires c =
    let t = taken_is c.args.input.now c.read_sinks.result c.read_sinks.ensures refl refl c.in-Ok.is in
    let z : length c.new-page.result.out.now ≡ 49152 = search rules in
    record { sinks = rw (t.takes_x, t.takes_y, t.takes_none) (sinked c.args.input.now t.fine); room = omega (arith, z) }

pub returns : goal.returns
returns c =
    let f = c.args.input.now in
    let z : length c.new-page.result.out.now ≡ 49152 = search rules in
    elim c.match-read_sinks.branch [
      | in-Err w ↦
          let x = w.refusal_line.ensures in
          rw (c.len-2.ensures, text_refused f c.if-input-gt32768.false (refused_is f c.read_sinks.result c.read_sinks.ensures refl refl w.in-Err.is), ← c.new-page.ensures.holds, w.page-is)
          (printed x.writes c.new-page.ensures.empty (omega (arith, x.within)))
      | in-Ok w ↦
          let t = taken_is f c.read_sinks.result c.read_sinks.ensures refl refl w.in-Ok.is in
          let x = w.sinks_lines.ensures in
          rw (c.len-2.ensures, text_lines f c.if-input-gt32768.false t.fine, ← c.new-page.ensures.holds, w.page-is)
          (printed (rw (t.takes_x, t.takes_y, t.takes_none) at x.writes) c.new-page.ensures.empty (omega (arith, x.within)))
    ]
