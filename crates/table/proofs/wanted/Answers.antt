-- `table::wanted` meets its contract: the tests are those of the definition, in its order.
-- Assumes nothing.
use Rattle.table.specs.Table.{wanted_of}
use Rattle.text.specs.Reading.{pick}
use borrow.Author.Tests.{eq-eqb, ne_eqb}
use Rattle.table.proofs.wanted.Goals as goal

pub returns-then-kind-eq0 : goal.returns-then-kind-eq0
unfolding wanted_of pick
returns-then-kind-eq0 c = simp (eq-eqb _ _ c.if-kind-eq0.true)

pub returns-then-kind-eq1 : goal.returns-then-kind-eq1
unfolding wanted_of pick
returns-then-kind-eq1 c = simp (ne_eqb _ _ c.if-kind-eq0.false, eq-eqb _ _ c.if-kind-eq1.true)

pub returns-then-kind-eq7 : goal.returns-then-kind-eq7
unfolding wanted_of pick
returns-then-kind-eq7 c = simp (ne_eqb _ _ c.if-kind-eq0.false, ne_eqb _ _ c.if-kind-eq1.false, eq-eqb _ _ c.if-kind-eq7.true)

pub returns-then-kind-eq9 : goal.returns-then-kind-eq9
unfolding wanted_of pick
returns-then-kind-eq9 c = simp (ne_eqb _ _ c.if-kind-eq0.false, ne_eqb _ _ c.if-kind-eq1.false, ne_eqb _ _ c.if-kind-eq7.false, eq-eqb _ _ c.if-kind-eq9.true)

pub returns-else-kind-eq9 : goal.returns-else-kind-eq9
unfolding wanted_of pick
returns-else-kind-eq9 c = simp (ne_eqb _ _ c.if-kind-eq0.false, ne_eqb _ _ c.if-kind-eq1.false, ne_eqb _ _ c.if-kind-eq7.false, ne_eqb _ _ c.if-kind-eq9.false)
