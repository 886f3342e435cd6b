-- `members::item_kind` meets its contract: the test is that of the definition.
-- Assumes nothing.
use Rattle.text.specs.Reading.{pick}
use borrow.Author.Tests.{eq-eqb, ne_eqb}
use Rattle.members.proofs.item_kind.Goals as goal

pub returns-then-kind-eq7 : goal.returns-then-kind-eq7
unfolding pick
returns-then-kind-eq7 c = simp (eq-eqb _ _ c.if-kind-eq7.true)

pub returns-else-kind-eq7 : goal.returns-else-kind-eq7
unfolding pick
returns-else-kind-eq7 c = simp (ne_eqb _ _ c.if-kind-eq7.false)
