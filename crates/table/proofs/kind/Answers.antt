-- `table::kind` meets its contract: the constant is the column of the lines' kinds.
-- Assumes nothing.
use Rattle.table.specs.laws.Lines.{kind_at_lem}
use Rattle.table.proofs.kind.Goals as goal

pub returns : goal.returns
returns c = kind_at_lem c.args.line
