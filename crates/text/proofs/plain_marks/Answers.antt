-- `text::plain_marks` meets its contract: the loop keeps the sum of the i answers so far, the next weight, and that the two make the whole with what is left.
-- Assumes nothing.
use borrow.Author.Rules.{rules}
use native.Mathlib.Omega.{arith}
use Rattle.text.specs.laws.Marks.{summed_none, sum_low, weight_low, summed_more, summed_all}
use Rattle.text.specs.laws.Plain.{own_at}
use Rattle.text.proofs.plain_marks.Goals as goal

pub loop-i-init : goal.loop-i-init
loop-i-init c = (search rules, summed_none _)

pub overflow_add-m : goal.overflow_add-m
unfolding own_at
overflow_add-m c = omega (arith, sum_low _ c.loop-i.invariant.1 (omega arith) c.weight-m.ensures, weight_low _ c.loop-i.invariant.1 (omega arith))

pub overflow_mul-w : goal.overflow_mul-w
overflow_mul-w c = omega (arith, weight_low _ c.loop-i.invariant.1 (omega arith))

pub loop-i-preserved : goal.loop-i-preserved
unfolding own_at
loop-i-preserved c = (search rules, summed_more _ c.loop-i.invariant.1 (omega arith) c.weight-m.ensures)

pub overflow_add-result : goal.overflow_add-result
overflow_add-result c = omega (arith, weight_low _ c.loop-i.invariant.1 (omega arith), c.loop-i.invariant.1.low)

pub returns : goal.returns
returns c = summed_all _ c.loop-i.invariant.1 (omega arith)
