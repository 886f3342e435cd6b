-- `checks::source_number` meets its contract: the number stands where the table has it.
-- Assumes nothing.
use borrow.Author.Rules.{rules}
use Rattle.checks.specs.Table.{source_number}
use Rattle.checks.proofs.source_number.Goals as goal

pub returns : goal.returns
unfolding source_number
returns c = search rules
