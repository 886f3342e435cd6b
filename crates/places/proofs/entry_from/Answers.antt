-- `places::entry_from` meets its contract: a name, its colon, and the item past the whitespace; the last where one of them is not read.
-- Assumes nothing.
use mathlib.Core.Path.{sym, ◌∙◌}
use Rattle.places.proofs.Listed.{entry_some, entry_end, entry_none}
use Rattle.values.specs.laws.Outs.{scan_bad, scan_deep}
use Rattle.places.proofs.entry_from.Goals as goal

pub returns-in-Item : goal.returns-in-Item
returns-in-Item c = entry_some _ _ c.name.ensures c.in-Done.is c.blank.ensures c.item_from.ensures c.in-Item.is

pub returns-in-End : goal.returns-in-End
returns-in-End c = entry_end _ _ c.name.ensures c.in-Done.is c.blank.ensures c.item_from.ensures c.in-End.is

pub returns-in-Bad : goal.returns-in-Bad
returns-in-Bad c = entry_none _ _ (scan_bad _ (sym c.name.ensures ∙ c.in-Bad.is))

pub returns-in-Deep : goal.returns-in-Deep
returns-in-Deep c = entry_none _ _ (scan_deep _ (sym c.name.ensures ∙ c.in-Deep.is))
