-- `fills::machine_met` meets its contract: the column `name` of `machine` is put after its place.
-- Assumes nothing.
use Rattle.fills.proofs.Steps.{first_column, row_ends, two_made}
use Rattle.fills.proofs.machine_met.Goals as goal

pub row_to-own-requires : goal.row_to-own-requires
row_to-own-requires c = c.requires.0

pub returns : goal.returns
returns c = (row_ends c.row_to-own.ensures, two_made c.args.row.now 1 c.args.v 2 (first_column c.row_to-own.ensures))
