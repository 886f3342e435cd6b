-- `text::int` meets its contract: the test is that of `int`. A zero stands within the text, so the sum fits.
-- Assumes nothing.
use Rattle.text.specs.laws.Peek.{found_in}
use borrow.Author.Tests.{eq-eqb, ne_eqb}
use native.Mathlib.Omega.{arith}
use Rattle.text.specs.Numbers.{int}
use Rattle.text.specs.Reading.{pick, scan}
use Rattle.text.proofs.int.Goals as goal

pub overflow_add-result : goal.overflow_add-result
overflow_add-result c = omega (arith, found_in _ _ c.byte.ensures c.if-byte-eq48.true tt)

pub returns-then-byte-eq48 : goal.returns-then-byte-eq48
unfolding int pick scan
returns-then-byte-eq48 c = simp (← c.byte.ensures, eq-eqb _ _ c.if-byte-eq48.true)

pub returns-else-byte-eq48 : goal.returns-else-byte-eq48
unfolding int pick
returns-else-byte-eq48 c = simp (← c.byte.ensures, ne_eqb _ _ c.if-byte-eq48.false) c.digits.ensures
