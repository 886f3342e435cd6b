-- `text::either` meets its contract: the two tests, one after the other.
-- Assumes nothing.
use borrow.Author.Tests.{eq-eqb, ne_eqb}
use Rattle.text.proofs.either.Goals as goal

pub returns-then-b-x : goal.returns-then-b-x
returns-then-b-x c = simp (eq-eqb _ _ c.if-b-x.true)

pub returns-else-b-x : goal.returns-else-b-x
returns-else-b-x c = simp (ne_eqb _ _ c.if-b-x.false)
