-- `text::zeros` meets its contract: the two tests, one after the other.
-- Assumes nothing.
use borrow.Author.Tests.{eq-eqb, ne_eqb}
use Rattle.text.proofs.zeros.Goals as goal

pub returns-then-p-eq48 : goal.returns-then-p-eq48
returns-then-p-eq48 c = simp (eq-eqb _ _ c.if-p-eq48.true)

pub returns-else-p-eq48 : goal.returns-else-p-eq48
returns-else-p-eq48 c = simp (ne_eqb _ _ c.if-p-eq48.false)
