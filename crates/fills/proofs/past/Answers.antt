-- `fills::past` meets its contract: a value that is read ends where the reading did.
-- Assumes nothing.
use Rattle.fills.proofs.Steps.{ended}
use Rattle.fills.proofs.past.Goals as goal

pub returns : goal.returns
returns c = ended _ _ c.value.ensures c.end_of.ensures
