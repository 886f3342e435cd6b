-- `checks::files` meets its contract: a table tells of 32 at most. Assumes nothing.
use borrow.Author.Rules.{rules}
use Rattle.checks.specs.Table.{files_in}
use Rattle.checks.proofs.files.Goals as goal

pub returns : goal.returns
unfolding files_in
returns c = search rules
