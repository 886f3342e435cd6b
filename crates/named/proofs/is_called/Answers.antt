-- `named::is_called` meets its contract: at 0 no name stands; the text at p is itself; an empty text, which its print tells, is compared by the length, and any other as a string.
-- Assumes nothing.
use mathlib.Core.Path.{◌∙◌}
use Rattle.prints.specs.laws.Empty.{same_empty, same_string}
use Rattle.named.specs.laws.Firsts.{called_none, called_some, called_itself}
use Rattle.prints.specs.laws.Prints.{print_tells}
use borrow.Author.Tests.{eq-eqb, ne_eqb}
use Rattle.named.proofs.is_called.Goals as goal

pub returns-then-q-eq0 : goal.returns-then-q-eq0
returns-then-q-eq0 c = called_none _ _ _ c.if-q-eq0.true

pub returns-then-q-p : goal.returns-then-q-p
returns-then-q-p c = called_itself _ _ _ c.if-q-eq0.false c.if-q-p.true

pub returns-then-print-eq0 : goal.returns-then-print-eq0
returns-then-print-eq0 c = same_empty _ _ _ (print_tells _ _ c.requires) (eq-eqb _ 0 c.if-print-eq0.true) c.length_at.ensures ∙ called_some _ _ _ c.if-q-eq0.false

pub returns : goal.returns
returns c = same_string _ _ _ (print_tells _ _ c.requires) (ne_eqb _ 0 c.if-print-eq0.false) c.same_texts.ensures ∙ called_some _ _ _ c.if-q-eq0.false
