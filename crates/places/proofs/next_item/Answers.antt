-- `places::next_item` meets its contract: the tests are those of the definition.
-- Assumes nothing.
use mathlib.Core.Path.{sym, ◌∙◌}
use native.Mathlib.Omega.{arith}
use borrow.Author.Tests.{eq-eqb, ne_eqb}
use Rattle.text.specs.Reading.{pick}
use Rattle.text.specs.laws.Peek.{found_in}
use Rattle.places.specs.Places.{next_item}
use Rattle.places.proofs.next_item.Goals as goal

pub overflow_add-f : goal.overflow_add-f
overflow_add-f c = omega (arith, found_in _ _ c.byte.ensures c.if-byte-eq44.true tt)

pub returns-then-byte-eq44 : goal.returns-then-byte-eq44
unfolding next_item pick
returns-then-byte-eq44 c = simp (← c.blank-f.ensures, eq-eqb _ _ (sym c.byte.ensures ∙ c.if-byte-eq44.true), ← c.blank.ensures) c.item_from.ensures

pub returns-else-byte-eq44 : goal.returns-else-byte-eq44
unfolding next_item pick
returns-else-byte-eq44 c = simp (← c.blank-f.ensures, ne_eqb _ _ (λ q. c.if-byte-eq44.false (c.byte.ensures ∙ q)))
