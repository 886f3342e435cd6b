-- `fills::value_of` meets its contract: past the name, its colon and the whitespace stands the value.
-- Assumes nothing.
use Rattle.fills.proofs.Steps.{valued}
use Rattle.fills.proofs.value_of.Goals as goal

pub returns : goal.returns
returns c = valued _ _ c.name.ensures c.end_of.ensures c.blank.ensures
