-- `text::rest` meets its contract: what `frac` found goes on as `next` says.
-- Assumes nothing.
use Rattle.text.proofs.Coded.{scan_done, scan_bad, scan_deep}
use Rattle.text.specs.Numbers.{frac, rest}
use mathlib.Core.Path.{◌∙◌, sym}
use Rattle.text.proofs.rest.Goals as goal

pub returns-in-Done : goal.returns-in-Done
unfolding rest
returns-in-Done c = scan_done (frac _ _) _ (sym c.frac.ensures ∙ c.in-Done.is) (λ u. c.exp.ensures)

pub returns-in-Bad : goal.returns-in-Bad
unfolding rest
returns-in-Bad c = scan_bad (frac _ _) _ (sym c.frac.ensures ∙ c.in-Bad.is)

pub returns-in-Deep : goal.returns-in-Deep
unfolding rest
returns-in-Deep c = scan_deep (frac _ _) _ (sym c.frac.ensures ∙ c.in-Deep.is)
