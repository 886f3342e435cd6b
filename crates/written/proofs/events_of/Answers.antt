-- `written::events_of` meets its contract: a refusal has none.
-- Assumes nothing.
use borrow.Author.Rules.{rules}
use Rattle.written.specs.Written.{events_of}
use Rattle.written.proofs.events_of.Goals as goal

pub returns : goal.returns
unfolding events_of
returns c = search rules
