-- `text::least` meets its contract: the cases of the two tests.
-- Assumes nothing.
use Rattle.text.specs.Reading.{pick}
use borrow.Author.Tests.{eq-eqb, ne_eqb}
use Rattle.text.proofs.least.Goals as goal

pub returns-then-b-eq224 : goal.returns-then-b-eq224
unfolding pick
returns-then-b-eq224 c = simp (eq-eqb _ _ c.if-b-eq224.true)

pub returns-then-b-eq240 : goal.returns-then-b-eq240
unfolding pick
returns-then-b-eq240 c = simp (ne_eqb _ _ c.if-b-eq224.false, eq-eqb _ _ c.if-b-eq240.true)

pub returns-else-b-eq240 : goal.returns-else-b-eq240
unfolding pick
returns-else-b-eq240 c = simp (ne_eqb _ _ c.if-b-eq224.false, ne_eqb _ _ c.if-b-eq240.false)
