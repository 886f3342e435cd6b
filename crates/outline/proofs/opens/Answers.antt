-- `outline::opens` meets its contract: the start bytes are read one after the other, which is `starts`. Assumes nothing.
use mathlib.Core.Path.{sym, ◌∙◌}
use Rattle.values.specs.laws.Outs.{scan_bad, scan_deep}
use Rattle.outline.proofs.Steps.{opens_yes, opens_no}
use Rattle.outline.proofs.opens.Goals as goal

pub returns-in-Done : goal.returns-in-Done
returns-in-Done c = opens_yes _ c.blank.ensures c.literal.ensures c.in-Done.is

pub returns-in-Bad : goal.returns-in-Bad
returns-in-Bad c = opens_no _ c.blank.ensures c.literal.ensures (scan_bad _ (sym c.literal.ensures ∙ c.in-Bad.is))

pub returns-in-Deep : goal.returns-in-Deep
returns-in-Deep c = opens_no _ c.blank.ensures c.literal.ensures (scan_deep _ (sym c.literal.ensures ∙ c.in-Deep.is))
