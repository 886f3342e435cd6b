-- `fills::trace_met` meets its contract: the columns of `trace_time` are put after its place.
-- Assumes nothing.
use Rattle.fills.proofs.Steps.{four_made, row_ends}
use Rattle.fills.proofs.trace_met.Goals as goal

pub row_to-own-requires : goal.row_to-own-requires
row_to-own-requires c = c.requires.0

pub returns : goal.returns
returns c = (row_ends c.row_to-own.ensures, four_made c.args.row.now 1 c.row_to-own.ensures)
