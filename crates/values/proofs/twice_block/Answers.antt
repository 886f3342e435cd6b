-- `values::twice_block` meets its contract: the loop keeps that n of the j bytes passed are plain and the same, and that all are where n is j. So they are where 16 of 16 were counted.
-- Assumes nothing.
use native.Mathlib.Omega.{arith}
use borrow.Author.Rules.{rules}
use borrow.Author.Tests.{eqb-true}
use Rattle.values.specs.laws.Alike.{counted_none, counted_more, counted_all}
use Rattle.values.proofs.twice_block.Goals as goal

pub loop-j-init : goal.loop-j-init
loop-j-init c = (search rules, counted_none _ _ _ _ (omega arith) (omega arith))

pub overflow_add-n : goal.overflow_add-n
overflow_add-n c = omega (arith, c.loop-j.invariant.1.few, c.twice_one-n.ensures.0)

pub loop-j-preserved : goal.loop-j-preserved
loop-j-preserved c = (search rules, counted_more _ _ _ _ c.loop-j.invariant.1 (omega arith) (omega arith) c.twice_one-n.ensures)

pub returns : goal.returns
returns c = λ e. counted_all _ _ _ _ c.loop-j.invariant.1 (omega arith) (eqb-true _ _ e)
