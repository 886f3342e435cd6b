-- `text::exp` meets its contract: the test is that of `exp`. Its letter stands within the text, so the sum fits.
-- Assumes nothing.
use Prim.Native.Nat.{ℕ}
use mathlib.Core.Path.{◌∙◌, ap}
use Rattle.text.proofs.Coded.{either_in}
use native.Mathlib.Omega.{arith}
use Rattle.text.specs.Numbers.{digits, exp}
use Rattle.text.specs.Reading.{pick, scan}
use Rattle.text.proofs.exp.Goals as goal

pub overflow_add-at : goal.overflow_add-at
overflow_add-at c = omega (arith, either_in _ _ 101 69 c.byte.ensures c.either.ensures c.if-either.true tt tt)

pub returns-then-either : goal.returns-then-either
unfolding exp pick
returns-then-either c = simp (← c.byte.ensures, ← c.either.ensures, c.if-either.true) (c.digits.ensures ∙ ap (λ (k : ℕ). scan (digits c.args.s.now k)) c.sign.ensures)

pub returns-else-either : goal.returns-else-either
unfolding exp pick scan
returns-else-either c = simp (← c.byte.ensures, ← c.either.ensures, c.if-either.false)
