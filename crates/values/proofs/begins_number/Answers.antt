-- `values::begins_number` meets its contract: a minus, or a digit by comparing, as the class table says.
-- Assumes nothing.
use mathlib.Core.Path.{sym, ◌∙◌}
use borrow.Author.Tests.{eq-eqb, ne_eqb, lt-leb, le-leb}
use Rattle.text.specs.Class.{digit}
use Rattle.text.specs.laws.ClassTable.{digit_bytes}
use Rattle.values.proofs.begins_number.Goals as goal

pub returns-then-b-eq45 : goal.returns-then-b-eq45
returns-then-b-eq45 c = simp (eq-eqb _ _ c.if-b-eq45.true)

pub returns-then-b-lt48 : goal.returns-then-b-lt48
unfolding digit
returns-then-b-lt48 c = simp (ne_eqb _ _ c.if-b-eq45.false) (sym (digit_bytes _ ∙ simp (lt-leb _ _ c.if-b-lt48.true)))

pub returns : goal.returns
unfolding digit
returns c = simp (ne_eqb _ _ c.if-b-eq45.false) (sym (digit_bytes _ ∙ simp (le-leb _ _ c.if-b-lt48.false)))
