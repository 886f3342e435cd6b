-- `text::frac` meets its contract: the test is that of `frac`. A point stands within the text, so the sum fits.
-- Assumes nothing.
use Rattle.text.specs.laws.Peek.{found_in}
use borrow.Author.Tests.{eq-eqb, ne_eqb}
use native.Mathlib.Omega.{arith}
use Rattle.text.specs.Numbers.{frac}
use Rattle.text.specs.Reading.{pick, scan}
use Rattle.text.proofs.frac.Goals as goal

pub overflow_add-at : goal.overflow_add-at
overflow_add-at c = omega (arith, found_in _ _ c.byte.ensures c.if-byte-eq46.true tt)

pub returns-then-byte-eq46 : goal.returns-then-byte-eq46
unfolding frac pick
returns-then-byte-eq46 c = simp (← c.byte.ensures, eq-eqb _ _ c.if-byte-eq46.true) c.digits.ensures

pub returns-else-byte-eq46 : goal.returns-else-byte-eq46
unfolding frac pick scan
returns-else-byte-eq46 c = simp (← c.byte.ensures, ne_eqb _ _ c.if-byte-eq46.false)
