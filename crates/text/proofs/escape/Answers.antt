-- `text::escape` meets its contract: the tests are those of `escape`, and what `quad` found goes on as `next` says.
-- Assumes nothing.
use Rattle.text.proofs.Coded.{code_of_lem, code_no}
use mathlib.Core.Path.{◌∙◌, sym}
use Rattle.text.specs.Reading.{pick}
use Rattle.text.specs.Strings.{quad, escape, code_of}
use borrow.Author.Tests.{eq-eqb, ne_eqb}
use Rattle.text.proofs.escape.Goals as goal

pub returns-in-Of : goal.returns-in-Of
unfolding escape pick
returns-in-Of c = simp (← c.byte.ensures, eq-eqb _ _ c.if-byte-eq117.true) (code_of_lem (quad _ _) _ (sym c.quad.ensures ∙ c.in-Of.is) c.paired.ensures)

pub returns-in-No : goal.returns-in-No
unfolding escape pick
returns-in-No c = simp (← c.byte.ensures, eq-eqb _ _ c.if-byte-eq117.true) (code_no (quad _ _) _ (sym c.quad.ensures ∙ c.in-No.is))

pub returns-then-v-eq0 : goal.returns-then-v-eq0
unfolding escape pick code_of
returns-then-v-eq0 c = simp (ne_eqb _ _ (λ q. c.if-byte-eq117.false (c.byte.ensures ∙ q)), ← c.escape_of_at-v.ensures, eq-eqb _ _ c.if-v-eq0.true)

pub returns : goal.returns
unfolding escape pick code_of
returns c = simp (ne_eqb _ _ (λ q. c.if-byte-eq117.false (c.byte.ensures ∙ q)), ← c.escape_of_at-v.ensures, ne_eqb _ _ c.if-v-eq0.false)
