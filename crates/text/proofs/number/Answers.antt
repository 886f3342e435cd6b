-- `text::number` meets its contract: what `int` found goes on as `next` says; the characters of a number change no position.
-- Assumes nothing.
use Rattle.text.proofs.Coded.{scan_done, scan_bad, scan_deep, as_number}
use Rattle.text.specs.Numbers.{int}
use mathlib.Core.Path.{◌∙◌, sym}
use Rattle.text.proofs.number.Goals as goal

pub returns-in-Done : goal.returns-in-Done
returns-in-Done c = as_number _ _ c.minus.ensures (scan_done (int _ _) _ (sym c.int.ensures ∙ c.in-Done.is) (λ u. c.rest.ensures))

pub returns-in-Bad : goal.returns-in-Bad
returns-in-Bad c = as_number _ _ c.minus.ensures (scan_bad (int _ _) _ (sym c.int.ensures ∙ c.in-Bad.is))

pub returns-in-Deep : goal.returns-in-Deep
returns-in-Deep c = as_number _ _ c.minus.ensures (scan_deep (int _ _) _ (sym c.int.ensures ∙ c.in-Deep.is))
