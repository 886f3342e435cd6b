-- `places::next_member` meets its contract: the tests are those of the definition.
-- Assumes nothing.
use mathlib.Core.Path.{sym, ◌∙◌}
use native.Mathlib.Omega.{arith}
use borrow.Author.Tests.{eq-eqb, ne_eqb}
use Rattle.text.specs.Reading.{pick}
use Rattle.text.specs.laws.Peek.{found_in}
use Rattle.places.specs.Places.{next_member}
use Rattle.places.proofs.next_member.Goals as goal

pub overflow_add-g : goal.overflow_add-g
overflow_add-g c = omega (arith, found_in _ _ c.byte.ensures c.if-byte-eq44.true tt)

pub returns-then-byte-eq44 : goal.returns-then-byte-eq44
unfolding next_member pick
returns-then-byte-eq44 c = simp (← c.blank-g.ensures, eq-eqb _ _ (sym c.byte.ensures ∙ c.if-byte-eq44.true), ← c.blank.ensures) c.entry_from.ensures

pub returns-else-byte-eq44 : goal.returns-else-byte-eq44
unfolding next_member pick
returns-else-byte-eq44 c = simp (← c.blank-g.ensures, ne_eqb _ _ (λ q. c.if-byte-eq44.false (c.byte.ensures ∙ q)))
