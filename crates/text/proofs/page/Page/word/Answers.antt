use mathlib.Core.Path.{refl, ap, ◌∙◌}
use lib.ListN.{length}
use lib.Seq.{length-sets}
use Rattle.text.proofs.Written.{copied}
use Rattle.text.proofs.page.Page.word.Goals as goal

pub returns : goal.returns
returns c =
    let p = c.args.self.now in
    let e = copied p.out.now c.args.w.now c.copy_from_slice.new.self p.at c.requires.fits c.copy_from_slice.ensures.after in
    record { same = refl; size = ap length e ∙ length-sets p.out.now p.at c.args.w.now; ends = refl; holds = e }
