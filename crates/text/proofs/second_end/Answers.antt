-- `text::second_end` meets its contract: the two cases of the test.
-- Assumes nothing.
use Rattle.text.specs.Reading.{pick}
use native.Mathlib.Omega.{arith}
use borrow.Author.Tests.{eq-eqb, ne_eqb}
use Rattle.text.proofs.second_end.Goals as goal

pub returns-then-d0-eq13 : goal.returns-then-d0-eq13
unfolding pick
returns-then-d0-eq13 c = (simp (eq-eqb _ _ c.if-d0-eq13.true), omega arith)

pub returns-else-d0-eq13 : goal.returns-else-d0-eq13
unfolding pick
returns-else-d0-eq13 c = (simp (ne_eqb _ _ c.if-d0-eq13.false), omega arith)
