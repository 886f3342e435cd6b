-- `fills::store_head` meets its contract. The invariant: the row and the entries are those of what was met, and with the members that are left that gives
-- the columns. At the end the row is put before the entries, and no number of before is left. Assumes nothing.
use mathlib.Core.Path.{sym}
use native.Mathlib.Omega.{arith}
use Rattle.fills.proofs.Passed.{left_falls, left_inside, left_there}
use Rattle.fills.proofs.Turns.{head_begin, head_end, head_fresh, head_long, head_on, head_sized}
use Rattle.fills.proofs.store_head.Goals as goal

pub first_in-at-requires : goal.first_in-at-requires
first_in-at-requires c = (omega arith, omega arith)

pub loop-at-init : goal.loop-at-init
loop-at-init c = head_begin c.requires.0 c.first_in-at.ensures c.requires.1 c.requires.2

pub head_met-e-requires : goal.head_met-e-requires
head_met-e-requires c = (left_there c.loop-at.invariant.left c.loop-at-test.true c.value_of-v.ensures, head_sized c.loop-at.invariant, head_long c.loop-at.invariant c.requires.1, head_fresh c.loop-at.invariant c.requires.2)

pub after-at-requires : goal.after-at-requires
after-at-requires c = left_inside c.loop-at.invariant.left c.loop-at-test.true c.value_of-v.ensures c.head_met-e.ensures.0

pub loop-at-smaller : goal.loop-at-smaller
loop-at-smaller c = left_falls c.loop-at.invariant.left c.loop-at-test.true c.value_of-v.ensures c.head_met-e.ensures.0 c.after-at.ensures

pub loop-at-preserved : goal.loop-at-preserved
loop-at-preserved c = head_on c.loop-at.invariant c.loop-at-test.true c.value_of-v.ensures c.head_met-e.ensures.0 c.after-at.ensures c.head_met-e.ensures.1

pub slice_bounds-store-end : goal.slice_bounds-store-end
slice_bounds-store-end c = sym (head_sized c.loop-at.invariant)

pub store-requires : goal.store-requires
store-requires c = (head_long c.loop-at.invariant c.requires.1, omega (arith, head_sized c.loop-at.invariant))

pub returns : goal.returns
returns c = head_end c.loop-at.invariant c.requires.1 c.loop-at-test.false c.store.ensures
