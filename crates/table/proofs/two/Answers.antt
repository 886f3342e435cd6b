-- `table::two` meets its contract: each return by the test that leads to it.
-- Assumes nothing.
use borrow.Author.Tests.{eq-eqb, ne_eqb}
use Rattle.text.specs.Reading.{pick}
use Rattle.table.proofs.two.Goals as goal

pub returns-then-n-length : goal.returns-then-n-length
unfolding pick
returns-then-n-length c = simp (eq-eqb _ _ c.if-n-length.true)

pub returns : goal.returns
unfolding pick
returns c = simp (ne_eqb _ _ c.if-n-length.false) c.one.ensures
