-- `places::first_member` meets its contract: the tests are those of the definition.
-- Assumes nothing.
use mathlib.Core.Path.{sym, ◌∙◌}
use native.Mathlib.Omega.{arith}
use borrow.Author.Tests.{eq-eqb, ne_eqb}
use Rattle.text.specs.Reading.{pick}
use Rattle.text.specs.laws.Peek.{found_in}
use Rattle.places.specs.Places.{first_member}
use Rattle.places.proofs.first_member.Goals as goal

pub returns-then-byte-ne123 : goal.returns-then-byte-ne123
unfolding first_member pick
returns-then-byte-ne123 c = simp (ne_eqb _ _ (λ q. c.if-byte-ne123.true (c.byte.ensures ∙ q)))

pub overflow_add-at : goal.overflow_add-at
overflow_add-at c = omega (arith, found_in _ _ c.byte.ensures c.if-byte-ne123.false tt)

pub returns-then-byte-eq125 : goal.returns-then-byte-eq125
unfolding first_member pick
returns-then-byte-eq125 c = simp (eq-eqb _ _ (sym c.byte.ensures ∙ c.if-byte-ne123.false), ← c.blank-a.ensures, eq-eqb _ _ (sym c.byte-2.ensures ∙ c.if-byte-eq125.true))

pub returns-else-byte-eq125 : goal.returns-else-byte-eq125
unfolding first_member pick
returns-else-byte-eq125 c = simp (eq-eqb _ _ (sym c.byte.ensures ∙ c.if-byte-ne123.false), ← c.blank-a.ensures, ne_eqb _ _ (λ q. c.if-byte-eq125.false (c.byte-2.ensures ∙ q))) c.entry_from.ensures
