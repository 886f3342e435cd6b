-- `places::note` meets its contract: the cases are those of the definition.
-- Assumes nothing.
use borrow.Author.Tests.{eq-eqb, ne_eqb}
use Rattle.text.specs.Reading.{pick}
use Rattle.places.specs.laws.Tally.{noted}
use Rattle.places.proofs.note.Goals as goal

pub returns-then-m-eq0 : goal.returns-then-m-eq0
unfolding noted pick
returns-then-m-eq0 c = simp (c.if-hit.true, eq-eqb _ _ c.if-m-eq0.true)

pub returns-else-m-eq0 : goal.returns-else-m-eq0
unfolding noted pick
returns-else-m-eq0 c = simp (c.if-hit.true, ne_eqb _ _ c.if-m-eq0.false)

pub returns-else-hit : goal.returns-else-hit
unfolding noted pick
returns-else-hit c = simp c.if-hit.false
