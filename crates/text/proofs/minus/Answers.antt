-- `text::minus` meets its contract: the test is that of `minus`. A minus stands within the text, so the sum fits.
-- Assumes nothing.
use Rattle.text.specs.laws.Peek.{found_in}
use native.Mathlib.Omega.{arith}
use Rattle.text.specs.Numbers.{minus}
use Rattle.text.specs.Reading.{pick}
use borrow.Author.Tests.{eq-eqb, ne_eqb}
use Rattle.text.proofs.minus.Goals as goal

pub overflow_add-result : goal.overflow_add-result
overflow_add-result c = omega (arith, found_in _ _ c.byte.ensures c.if-byte-eq45.true tt)

pub returns-then-byte-eq45 : goal.returns-then-byte-eq45
unfolding minus pick
returns-then-byte-eq45 c = simp (← c.byte.ensures, eq-eqb _ _ c.if-byte-eq45.true)

pub returns-else-byte-eq45 : goal.returns-else-byte-eq45
unfolding minus pick
returns-else-byte-eq45 c = simp (← c.byte.ensures, ne_eqb _ _ c.if-byte-eq45.false)
