-- `text::sign` meets its contract: the test is that of `sign`. A sign stands within the text, so the sum fits.
-- Assumes nothing.
use Rattle.text.proofs.Coded.{either_in}
use native.Mathlib.Omega.{arith}
use Rattle.text.specs.Numbers.{sign}
use Rattle.text.specs.Reading.{pick}
use Rattle.text.proofs.sign.Goals as goal

pub overflow_add-result : goal.overflow_add-result
overflow_add-result c = omega (arith, either_in _ _ 45 43 c.byte.ensures c.either.ensures c.if-either.true tt tt)

pub returns-then-either : goal.returns-then-either
unfolding sign pick
returns-then-either c = simp (← c.byte.ensures, ← c.either.ensures, c.if-either.true)

pub returns-else-either : goal.returns-else-either
unfolding sign pick
returns-else-either c = simp (← c.byte.ensures, ← c.either.ensures, c.if-either.false)
