-- `prints::told` meets its contract: the cases of the definition are those of the code. Assumes nothing.
use mathlib.Core.Path.{sym}
use borrow.Author.Tests.{eq-eqb, ne_eqb}
use Rattle.text.specs.laws.Readers.{pick_true, pick_false}
use Rattle.prints.specs.Prints.{told_of}
use Rattle.prints.proofs.told.Goals as goal

pub returns-then-n-eq0 : goal.returns-then-n-eq0
unfolding told_of
returns-then-n-eq0 c = sym (pick_true _ _ (eq-eqb _ _ c.if-n-eq0.true))

pub returns-else-n-eq0 : goal.returns-else-n-eq0
unfolding told_of
returns-else-n-eq0 c = sym (pick_false _ _ (ne_eqb _ _ c.if-n-eq0.false))
