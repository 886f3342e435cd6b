-- `checks::file_number` meets its contract: the number stands where the table has it.
-- Assumes nothing.
use borrow.Author.Rules.{rules}
use Rattle.checks.specs.Table.{file_number}
use Rattle.checks.proofs.file_number.Goals as goal

pub returns : goal.returns
unfolding file_number
returns c = search rules
