-- `text::paired` meets its contract: the test on the digits is that of `paired`, and what `low` found goes on as `next` says.
-- Assumes nothing.
use Rattle.text.proofs.Coded.{code_of_lem, code_no}
use mathlib.Core.Path.{refl, ◌∙◌, sym}
use Rattle.text.specs.Reading.{pick}
use Rattle.text.specs.Strings.{low, joined, paired, code_of}
use borrow.Author.Tests.{eq-eqb, ne_eqb}
use Rattle.text.proofs.paired.Goals as goal

pub returns-then-v-ne54 : goal.returns-then-v-ne54
unfolding paired pick code_of
returns-then-v-ne54 c = simp (ne_eqb _ _ c.if-v-ne54.true)

pub returns-in-Of : goal.returns-in-Of
unfolding paired pick joined code_of
returns-in-Of c = simp (eq-eqb _ _ c.if-v-ne54.false) (code_of_lem (low _ _) _ (sym c.low.ensures ∙ c.in-Of.is) refl)

pub returns-in-No : goal.returns-in-No
unfolding paired pick
returns-in-No c = simp (eq-eqb _ _ c.if-v-ne54.false) (code_no (low _ _) _ (sym c.low.ensures ∙ c.in-No.is))
