-- `fills::noted` meets its contract, which has the code's test.
-- Assumes nothing.
use mathlib.Core.Path.{◌∙◌, sym}
use Rattle.text.specs.laws.Readers.{pick_false, pick_true}
use Rattle.fills.proofs.noted.Goals as goal

pub returns-then-is_first : goal.returns-then-is_first
returns-then-is_first c = sym (pick_true _ _ (sym c.is_first.ensures ∙ c.if-is_first.true))

pub returns-else-is_first : goal.returns-else-is_first
returns-else-is_first c = sym (pick_false _ _ (sym c.is_first.ensures ∙ c.if-is_first.false))
