-- `fills::row_to` meets its contract. The invariant: what was met, with the members that are left, gives the three columns. What is ahead of the text falls.
-- Assumes nothing.
use native.Mathlib.Omega.{arith}
use Rattle.fills.proofs.Passed.{left_falls, left_inside}
use Rattle.fills.proofs.Steps.{row_end, row_on, row_start}
use Rattle.fills.proofs.row_to.Goals as goal

pub first_in-at-requires : goal.first_in-at-requires
first_in-at-requires c = (omega arith, omega arith)

pub loop-at-init : goal.loop-at-init
loop-at-init c = row_start _ _ _ c.requires c.first_in-at.ensures

pub after-at-requires : goal.after-at-requires
after-at-requires c = left_inside c.loop-at.invariant.left c.loop-at-test.true c.value_of-v.ensures c.past.ensures

pub loop-at-smaller : goal.loop-at-smaller
loop-at-smaller c = left_falls c.loop-at.invariant.left c.loop-at-test.true c.value_of-v.ensures c.past.ensures c.after-at.ensures

pub loop-at-preserved : goal.loop-at-preserved
loop-at-preserved c = row_on c.loop-at.invariant c.loop-at-test.true c.value_of-v.ensures c.past.ensures c.after-at.ensures c.noted-p0.ensures c.noted-p1.ensures c.noted-p2.ensures

pub returns : goal.returns
returns c = row_end c.loop-at.invariant c.loop-at-test.false
