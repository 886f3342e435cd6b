-- `fills::clocks_met` meets its contract. The invariant: the row is that of what was met, and with the members that are left that gives the columns. What is ahead of the text falls.
-- Assumes nothing.
use native.Mathlib.Omega.{arith}
use Rattle.fills.proofs.Passed.{left_end, left_falls, left_inside, left_there}
use Rattle.fills.proofs.Turns.{clocks_end, clocks_on, clocks_start}
use Rattle.fills.proofs.clocks_met.Goals as goal

pub first_in-at-requires : goal.first_in-at-requires
first_in-at-requires c = (omega arith, omega arith)

pub loop-at-init : goal.loop-at-init
loop-at-init c = clocks_start c.args.row.now c.requires.1 c.requires.0 c.first_in-at.ensures

pub clock_met-e-requires : goal.clock_met-e-requires
clock_met-e-requires c = (left_there c.loop-at.invariant.left c.loop-at-test.true c.value_of-v.ensures, c.loop-at.invariant.sized)

pub after-at-requires : goal.after-at-requires
after-at-requires c = left_inside c.loop-at.invariant.left c.loop-at-test.true c.value_of-v.ensures c.clock_met-e.ensures.0

pub loop-at-smaller : goal.loop-at-smaller
loop-at-smaller c = left_falls c.loop-at.invariant.left c.loop-at-test.true c.value_of-v.ensures c.clock_met-e.ensures.0 c.after-at.ensures

pub loop-at-preserved : goal.loop-at-preserved
loop-at-preserved c = clocks_on c.loop-at.invariant c.loop-at-test.true c.value_of-v.ensures c.clock_met-e.ensures.0 c.after-at.ensures c.clock_met-e.ensures.1

pub returns : goal.returns
returns c = ((left_end c.loop-at.invariant.left c.loop-at-test.false).0, clocks_end c.loop-at.invariant c.loop-at-test.false)
