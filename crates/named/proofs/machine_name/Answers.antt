-- `named::machine_name` meets its contract: without `machine` there is none; else it is the second number.
-- Assumes nothing.
use mathlib.Core.Path.{sym, ◌∙◌}
use Rattle.named.specs.laws.Filled.{machine_none, machine_some}
use Rattle.named.proofs.machine_name.Goals as goal

pub returns-then-col-eq0 : goal.returns-then-col-eq0
returns-then-col-eq0 c = machine_none _ _ (sym c.col.ensures ∙ c.if-col-eq0.true)

pub returns : goal.returns
returns c = c.col-2.ensures ∙ machine_some _ _ (λ e. c.if-col-eq0.false (c.col.ensures ∙ e))
