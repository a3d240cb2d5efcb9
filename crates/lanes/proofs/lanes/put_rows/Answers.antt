use Rattle.lanes.proofs.Deals.{deals}
use Rattle.lanes.proofs.lanes.put_rows.Goals as goal

pub returns : goal.returns
returns c = deals c.args.h c.as_chunks.ensures.front c.requires.0 c.requires.1 c.rows_of.ensures c.copy_from_slice.ensures.after
