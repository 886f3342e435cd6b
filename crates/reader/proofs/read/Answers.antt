-- `reader::read` meets its contract: what is looked up is that of the index that is left, zeros or not. Assumes nothing.
use Rattle.reader.proofs.Ends.{lookups_are}
use Rattle.reader.proofs.read.Goals as goal

pub returns : goal.returns
returns c = (c.table-found.ensures.0, c.table-found.ensures.1, lookups_are _ c.table-found.ensures.1 c.table-found.ensures.2 c.fill.ensures)
