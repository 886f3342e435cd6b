-- `places::first_item` meets its contract: the tests are those of the definition.
-- Assumes nothing.
use mathlib.Core.Path.{sym, ◌∙◌}
use native.Mathlib.Omega.{arith}
use borrow.Author.Tests.{eq-eqb, ne_eqb}
use Rattle.text.specs.Reading.{pick}
use Rattle.text.specs.laws.Peek.{found_in}
use Rattle.places.specs.Places.{first_item}
use Rattle.places.proofs.first_item.Goals as goal

pub returns-then-byte-ne91 : goal.returns-then-byte-ne91
unfolding first_item pick
returns-then-byte-ne91 c = simp (ne_eqb _ _ (λ q. c.if-byte-ne91.true (c.byte.ensures ∙ q)))

pub overflow_add-at : goal.overflow_add-at
overflow_add-at c = omega (arith, found_in _ _ c.byte.ensures c.if-byte-ne91.false tt)

pub returns-then-byte-eq93 : goal.returns-then-byte-eq93
unfolding first_item pick
returns-then-byte-eq93 c = simp (eq-eqb _ _ (sym c.byte.ensures ∙ c.if-byte-ne91.false), ← c.blank-v.ensures, eq-eqb _ _ (sym c.byte-2.ensures ∙ c.if-byte-eq93.true))

pub returns-else-byte-eq93 : goal.returns-else-byte-eq93
unfolding first_item pick
returns-else-byte-eq93 c = simp (eq-eqb _ _ (sym c.byte.ensures ∙ c.if-byte-ne91.false), ← c.blank-v.ensures, ne_eqb _ _ (λ q. c.if-byte-eq93.false (c.byte-2.ensures ∙ q))) c.item_from.ensures
