-- `members::passed` meets its contract: where a value is read, the reading ends past it.
-- Assumes nothing.
use Rattle.members.proofs.Standing.{passed_over}
use Rattle.members.proofs.passed.Goals as goal

pub returns : goal.returns
returns c = passed_over _ _ c.value.ensures c.end_of-end.ensures
