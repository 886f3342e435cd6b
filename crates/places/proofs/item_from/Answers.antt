-- `places::item_from` meets its contract: an item where a value is read, and the end where none is.
-- Assumes nothing.
use mathlib.Core.Path.{sym, ◌∙◌}
use Rattle.places.proofs.Listed.{item_some, item_none}
use Rattle.values.specs.laws.Outs.{scan_bad, scan_deep}
use Rattle.places.proofs.item_from.Goals as goal

pub returns-in-Done : goal.returns-in-Done
returns-in-Done c = item_some _ _ c.value.ensures c.in-Done.is

pub returns-in-Bad : goal.returns-in-Bad
returns-in-Bad c = item_none _ _ (scan_bad _ (sym c.value.ensures ∙ c.in-Bad.is))

pub returns-in-Deep : goal.returns-in-Deep
returns-in-Deep c = item_none _ _ (scan_deep _ (sym c.value.ensures ∙ c.in-Deep.is))
