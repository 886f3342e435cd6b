-- `values::marks` meets its contract: a point, or either e.
-- Assumes nothing.
use borrow.Author.Tests.{eq-eqb, ne_eqb}
use Rattle.values.proofs.marks.Goals as goal

pub returns-then-b-eq46 : goal.returns-then-b-eq46
returns-then-b-eq46 c = simp (eq-eqb _ _ c.if-b-eq46.true)

pub returns : goal.returns
returns c = simp (ne_eqb _ _ c.if-b-eq46.false) c.either.ensures
