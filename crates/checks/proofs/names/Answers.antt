-- `checks::names` meets its contract: it is a number of the table. Assumes nothing.
use borrow.Author.Rules.{rules}
use Rattle.checks.specs.Table.{facts_by}
use Rattle.checks.proofs.names.Goals as goal

pub returns : goal.returns
unfolding facts_by
returns c = search rules
