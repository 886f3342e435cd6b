-- `fills::files_met` meets its contract: how many entries there are is put into the row, and their blocks are in the index.
-- Assumes nothing.
use Rattle.fills.proofs.Steps.{two_made}
use Rattle.fills.proofs.files_met.Goals as goal

pub store_entries-entries-requires : goal.store_entries-entries-requires
store_entries-entries-requires c = (c.requires.2, c.requires.0, c.requires.3)

pub returns : goal.returns
returns c = (c.store_entries-entries.ensures.1, two_made c.args.row.now 0 c.args.v 5 c.store_entries-entries.ensures.0, c.store_entries-entries.ensures.2)
