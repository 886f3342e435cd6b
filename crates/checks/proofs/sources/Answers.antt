-- `checks::sources` meets its contract: a table tells of 32 at most. Assumes nothing.
use borrow.Author.Rules.{rules}
use Rattle.checks.specs.Table.{sources_held}
use Rattle.checks.proofs.sources.Goals as goal

pub returns : goal.returns
unfolding sources_held
returns c = search rules
