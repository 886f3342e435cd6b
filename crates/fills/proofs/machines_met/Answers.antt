-- `fills::machines_met` meets its contract: how many items there are is put into the row, and their rows are in the index.
-- Assumes nothing.
use Rattle.fills.proofs.Steps.{two_made}
use Rattle.fills.proofs.machines_met.Goals as goal

pub store_items-items-requires : goal.store_items-items-requires
store_items-items-requires c = (c.requires.2, c.requires.3, c.requires.0, c.requires.4)

pub returns : goal.returns
returns c = (c.store_items-items.ensures.1, two_made c.args.row.now 3 c.args.v 12 c.store_items-items.ensures.0, c.store_items-items.ensures.2)
