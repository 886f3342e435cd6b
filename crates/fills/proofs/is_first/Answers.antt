-- `fills::is_first` meets its contract, which has the code's test.
-- Assumes nothing.
use mathlib.Core.Path.{◌∙◌, sym}
use borrow.Author.Tests.{eq-eqb, ne_eqb}
use Rattle.text.specs.laws.Readers.{pick_false, pick_true}
use Rattle.fills.specs.laws.Walked.{is_first}
use Rattle.fills.proofs.is_first.Goals as goal

pub returns-then-found-eq0 : goal.returns-then-found-eq0
unfolding is_first
returns-then-found-eq0 c = c.same_as.ensures ∙ sym (pick_true _ _ (eq-eqb _ 0 c.if-found-eq0.true))

pub returns-else-found-eq0 : goal.returns-else-found-eq0
unfolding is_first
returns-else-found-eq0 c = sym (pick_false _ _ (ne_eqb _ 0 c.if-found-eq0.false))
