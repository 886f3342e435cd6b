-- `fills::is_there` meets its contract: a value is there if it is read; if none is, the object that would stand there has no members.
-- Assumes nothing.
use mathlib.Core.Path.{◌∙◌, sym}
use Rattle.values.specs.laws.Outs.{scan_bad, scan_deep}
use Rattle.fills.proofs.Steps.{there_done, there_not, there_zero}
use Rattle.fills.proofs.is_there.Goals as goal

pub returns-then-p-eq0 : goal.returns-then-p-eq0
returns-then-p-eq0 c = there_zero _ c.if-p-eq0.true

pub returns-in-Done : goal.returns-in-Done
returns-in-Done c = there_done _ _ c.value.ensures c.if-p-eq0.false c.in-Done.is

pub returns-in-Bad : goal.returns-in-Bad
returns-in-Bad c = there_not _ _ c.value.ensures c.if-p-eq0.false (scan_bad _ (sym c.value.ensures ∙ c.in-Bad.is))

pub returns-in-Deep : goal.returns-in-Deep
returns-in-Deep c = there_not _ _ c.value.ensures c.if-p-eq0.false (scan_deep _ (sym c.value.ensures ∙ c.in-Deep.is))
