-- `prints::print_of` meets its contract: the bytes that have room are the first 256. Assumes nothing.
use Rattle.prints.specs.laws.Fronts.{print_text}
use Rattle.prints.proofs.print_of.Goals as goal

pub returns : goal.returns
returns c = print_text _ c.room.ensures c.print_bytes.ensures c.told.ensures
