-- `text::plain_block` meets its contract: the loop keeps that n of the i bytes passed are plain, and that the run of plain bytes goes on past them where all are. So it does where 16 of 16 were counted.
-- Assumes nothing.
use Rattle.text.specs.laws.Plain.{counted_none, counted_more, counted_all}
use borrow.Author.Tests.{eqb-true}
use native.Mathlib.Omega.{arith}
use borrow.Author.Rules.{rules}
use Rattle.text.proofs.plain_block.Goals as goal

pub loop-i-init : goal.loop-i-init
loop-i-init c = (search rules, counted_none _ _)

pub overflow_add-n : goal.overflow_add-n
overflow_add-n c = omega (arith, c.loop-i.invariant.1.few, c.plain_one-n.ensures.0)

pub loop-i-preserved : goal.loop-i-preserved
loop-i-preserved c = (search rules, counted_more _ _ c.loop-i.invariant.1 (omega arith) c.plain_one-n.ensures)

pub returns : goal.returns
returns c = λ e. counted_all _ _ c.loop-i.invariant.1 (omega arith) (eqb-true _ _ e)
