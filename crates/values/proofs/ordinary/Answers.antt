-- `values::ordinary` meets its contract: what passes the three tests is such a byte, and what does not is no character by itself.
-- Assumes nothing.
use native.Mathlib.Omega.{arith}
use Rattle.values.specs.laws.Ordinary.{by_tests, untold, no_own, no_own_last}
use Rattle.values.proofs.ordinary.Goals as goal

pub returns-then-b-lt32 : goal.returns-then-b-lt32
returns-then-b-lt32 c = (λ e. untold _ e, λ _. no_own _ (λ o. omega (arith, o.low, c.if-b-lt32.true)))

pub returns-then-b-gt127 : goal.returns-then-b-gt127
returns-then-b-gt127 c = (λ e. untold _ e, λ _. no_own _ (λ o. omega (arith, o.high, c.if-b-gt127.true)))

pub returns : goal.returns
returns c = (λ e. by_tests _ c.if-b-lt32.false c.if-b-gt127.false e, λ e. no_own_last _ e)
