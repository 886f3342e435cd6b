-- `fills::clock_line` meets its contract, which has the code's tests.
-- Assumes nothing.
use mathlib.Core.Path.{◌∙◌, sym}
use Rattle.text.specs.laws.Readers.{pick_false, pick_true}
use Rattle.fills.specs.laws.Walked.{line_of}
use Rattle.fills.proofs.clock_line.Goals as goal

pub returns-then-is_first : goal.returns-then-is_first
unfolding line_of
returns-then-is_first c = sym (pick_true _ _ (sym c.is_first.ensures ∙ c.if-is_first.true))

pub returns-then-is_first-2 : goal.returns-then-is_first-2
unfolding line_of
returns-then-is_first-2 c = sym (pick_false _ _ (sym c.is_first.ensures ∙ c.if-is_first.false) ∙ pick_true _ _ (sym c.is_first-2.ensures ∙ c.if-is_first-2.true))

pub returns-then-is_first-3 : goal.returns-then-is_first-3
unfolding line_of
returns-then-is_first-3 c = sym (pick_false _ _ (sym c.is_first.ensures ∙ c.if-is_first.false) ∙ (pick_false _ _ (sym c.is_first-2.ensures ∙ c.if-is_first-2.false) ∙ pick_true _ _ (sym c.is_first-3.ensures ∙ c.if-is_first-3.true)))

pub returns-then-is_first-4 : goal.returns-then-is_first-4
unfolding line_of
returns-then-is_first-4 c = sym (pick_false _ _ (sym c.is_first.ensures ∙ c.if-is_first.false) ∙ (pick_false _ _ (sym c.is_first-2.ensures ∙ c.if-is_first-2.false) ∙ (pick_false _ _ (sym c.is_first-3.ensures ∙ c.if-is_first-3.false) ∙ pick_true _ _ (sym c.is_first-4.ensures ∙ c.if-is_first-4.true))))

pub returns-else-is_first-4 : goal.returns-else-is_first-4
unfolding line_of
returns-else-is_first-4 c = sym (pick_false _ _ (sym c.is_first.ensures ∙ c.if-is_first.false) ∙ (pick_false _ _ (sym c.is_first-2.ensures ∙ c.if-is_first-2.false) ∙ (pick_false _ _ (sym c.is_first-3.ensures ∙ c.if-is_first-3.false) ∙ pick_false _ _ (sym c.is_first-4.ensures ∙ c.if-is_first-4.false))))
