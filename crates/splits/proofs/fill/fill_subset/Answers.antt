use lib.ListN.{take}
use Rattle.subsets.specs.Square.{held}
use Rattle.subsets.specs.Subsets.{splits}
use Rattle.subsets.proofs.Scan.{parts_splits, parts_take, subset_is}
use Rattle.splits.proofs.fill.fill_subset.Goals as goal

pub returns : goal.returns
returns c =
    let f = c.examine-found in
    record {
      value = f.ensures.0;
      table_after = subset_is (held c.args.ds.now) c.args.table.now c.args.s c.diameter.result f.result.least (take c.args.budget (splits c.args.s))
          (parts_take c.args.s c.args.budget (splits c.args.s) (parts_splits c.args.s c.requires.0)) c.requires.2 c.diameter.ensures f.ensures.1;
    }
