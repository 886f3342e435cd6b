-- `survey::early` meets its contract: the length, the start bytes and the reading are asked in the order in which the definition picks. Assumes nothing.
use mathlib.Core.Path.{sym, ◌∙◌}
use native.Mathlib.Omega.{arith}
use Rattle.survey.proofs.Steps.{is_long, is_unstarted, is_read, is_bad, is_deep}
use Rattle.survey.proofs.early.Goals as goal

pub returns-then-s-gt65536 : goal.returns-then-s-gt65536
returns-then-s-gt65536 c = is_long _ (omega arith)

pub returns-then-not-opens : goal.returns-then-not-opens
returns-then-not-opens c = is_unstarted _ (omega arith) (sym c.opens.ensures ∙ c.if-not-opens.true)

pub returns-in-Done : goal.returns-in-Done
returns-in-Done c = is_read _ (omega arith) (sym c.opens.ensures ∙ c.if-not-opens.false) c.document.ensures c.in-Done.is

pub returns-in-Bad : goal.returns-in-Bad
returns-in-Bad c = is_bad _ (omega arith) (sym c.opens.ensures ∙ c.if-not-opens.false) c.document.ensures c.in-Bad.is

pub returns-in-Deep : goal.returns-in-Deep
returns-in-Deep c = is_deep _ (omega arith) (sym c.opens.ensures ∙ c.if-not-opens.false) c.document.ensures c.in-Deep.is
