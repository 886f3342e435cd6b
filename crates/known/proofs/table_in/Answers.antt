-- `known::table_in` meets its contract: a case for each kind of sheet. Assumes nothing.
use borrow.Author.Rules.{rules}
use Rattle.known.specs.Known.{table_in}
use Rattle.known.proofs.table_in.Goals as goal

pub returns : goal.returns
unfolding table_in
returns c = search rules
