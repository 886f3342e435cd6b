-- `table::asked` meets its contract: past the last line nothing is asked for; else the constant is the column of what the lines ask for.
-- Assumes nothing.
use mathlib.Core.Path.{sym}
use Rattle.table.specs.laws.Lines.{none_asked, asked_at}
use Rattle.table.proofs.asked.Goals as goal

pub returns-then-line-ge20 : goal.returns-then-line-ge20
returns-then-line-ge20 c = sym (none_asked _ c.if-line-ge20.true)

pub returns : goal.returns
returns c = asked_at c.args.line
