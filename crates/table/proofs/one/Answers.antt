-- `table::one` meets its contract: each return by the test that leads to it.
-- Assumes nothing.
use borrow.Author.Tests.{eq-eqb, ne_eqb}
use Rattle.text.specs.Reading.{pick}
use Rattle.table.proofs.one.Goals as goal

pub returns-then-n-length : goal.returns-then-n-length
unfolding pick
returns-then-n-length c = simp (eq-eqb _ _ c.if-n-length.true)

pub returns-else-n-length : goal.returns-else-n-length
unfolding pick
returns-else-n-length c = simp (ne_eqb _ _ c.if-n-length.false)
