-- `table::first` meets its contract: the constant holds how many lines are about smaller kinds; past the kinds all are.
-- Assumes nothing.
use mathlib.Core.Path.{◌∙◌}
use native.Mathlib.Omega.{arith}
use Rattle.table.specs.laws.Lines.{first_past, first_at}
use Rattle.table.proofs.first.Goals as goal

pub returns-then-kind-ge13 : goal.returns-then-kind-ge13
returns-then-kind-ge13 c = first_past _ c.if-kind-ge13.true

pub returns : goal.returns
returns c = c.wide-2.ensures ∙ first_at c.wide.ensures (omega arith)
