-- `values::integer_at` meets its contract: a number that is read is the characters up to its end, which lie in the text.
-- Assumes nothing.
use mathlib.Core.Path.{sym, ◌∙◌}
use Rattle.values.proofs.Digits.{number_at, integer_read, integer_none}
use Rattle.values.specs.laws.Outs.{scan_bad, scan_deep}
use Rattle.values.proofs.integer_at.Goals as goal

pub written-requires : goal.written-requires
written-requires c = (number_at _ _ c.number.ensures c.in-Done.is).1

pub returns-in-Done : goal.returns-in-Done
returns-in-Done c = integer_read _ _ (number_at _ _ c.number.ensures c.in-Done.is).0 c.written.ensures

pub returns-in-Bad : goal.returns-in-Bad
returns-in-Bad c = integer_none _ _ (scan_bad _ (sym c.number.ensures ∙ c.in-Bad.is))

pub returns-in-Deep : goal.returns-in-Deep
returns-in-Deep c = integer_none _ _ (scan_deep _ (sym c.number.ensures ∙ c.in-Deep.is))
