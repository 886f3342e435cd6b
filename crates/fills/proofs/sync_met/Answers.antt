-- `fills::sync_met` meets its contract: the columns of `sync_to` are put after its place.
-- Assumes nothing.
use Rattle.fills.proofs.Steps.{four_made, row_ends}
use Rattle.fills.proofs.sync_met.Goals as goal

pub row_to-own-requires : goal.row_to-own-requires
row_to-own-requires c = c.requires.0

pub returns : goal.returns
returns c = (row_ends c.row_to-own.ensures, four_made c.args.row.now 7 c.row_to-own.ensures)
