-- `prints::measure_at` meets its contract: the print of the front of a text, as far as it goes, is the text's. Assumes nothing.
use Rattle.prints.specs.laws.Fronts.{print_front}
use Rattle.prints.specs.Prints.{print_at}
use Rattle.prints.proofs.measure_at.Goals as goal

pub returns : goal.returns
unfolding print_at
returns c = record { length = c.unescape-n.ensures.0; print = print_front _ c.unescape-n.ensures.0 c.unescape-n.ensures.1 c.room.ensures c.print_bytes.ensures c.told-print.ensures; text = c.unescape-n.ensures.1 }
