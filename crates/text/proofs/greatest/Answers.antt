-- `text::greatest` meets its contract: the cases of the two tests.
-- Assumes nothing.
use Rattle.text.specs.Reading.{pick}
use borrow.Author.Tests.{eq-eqb, ne_eqb}
use Rattle.text.proofs.greatest.Goals as goal

pub returns-then-b-eq237 : goal.returns-then-b-eq237
unfolding pick
returns-then-b-eq237 c = simp (eq-eqb _ _ c.if-b-eq237.true)

pub returns-then-b-eq244 : goal.returns-then-b-eq244
unfolding pick
returns-then-b-eq244 c = simp (ne_eqb _ _ c.if-b-eq237.false, eq-eqb _ _ c.if-b-eq244.true)

pub returns-else-b-eq244 : goal.returns-else-b-eq244
unfolding pick
returns-else-b-eq244 c = simp (ne_eqb _ _ c.if-b-eq237.false, ne_eqb _ _ c.if-b-eq244.false)
