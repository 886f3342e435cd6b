-- `fills::store_entry` meets its contract. The invariant: the row and the items are those of what was met, and with the members that are left that gives
-- the columns. At the end the row is put before the items, which is the entry's block. Assumes nothing.
use mathlib.Core.Path.{sym}
use native.Mathlib.Omega.{arith}
use Rattle.fills.proofs.Passed.{left_end, left_falls, left_inside, left_there}
use Rattle.fills.proofs.Turns.{entry_begin, entry_end, entry_fresh, entry_long, entry_on, entry_sized}
use Rattle.fills.proofs.store_entry.Goals as goal

pub first_in-at-requires : goal.first_in-at-requires
first_in-at-requires c = (omega arith, omega arith)

pub loop-at-init : goal.loop-at-init
loop-at-init c = entry_begin c.requires.2 c.first_in-at.ensures c.requires.0 c.requires.1 c.requires.3

pub entry_met-e-requires : goal.entry_met-e-requires
entry_met-e-requires c = (left_there c.loop-at.invariant.left c.loop-at-test.true c.value_of-v.ensures, entry_sized c.loop-at.invariant, entry_long c.loop-at.invariant c.requires.0, c.requires.1, entry_fresh c.loop-at.invariant c.requires.3)

pub after-at-requires : goal.after-at-requires
after-at-requires c = left_inside c.loop-at.invariant.left c.loop-at-test.true c.value_of-v.ensures c.entry_met-e.ensures.0

pub loop-at-smaller : goal.loop-at-smaller
loop-at-smaller c = left_falls c.loop-at.invariant.left c.loop-at-test.true c.value_of-v.ensures c.entry_met-e.ensures.0 c.after-at.ensures

pub loop-at-preserved : goal.loop-at-preserved
loop-at-preserved c = entry_on c.loop-at.invariant c.loop-at-test.true c.value_of-v.ensures c.entry_met-e.ensures.0 c.after-at.ensures c.entry_met-e.ensures.1

pub slice_bounds-store-end : goal.slice_bounds-store-end
slice_bounds-store-end c = sym (entry_sized c.loop-at.invariant)

pub store-requires : goal.store-requires
store-requires c = (entry_long c.loop-at.invariant c.requires.0, omega (arith, entry_sized c.loop-at.invariant, c.requires.1))

pub returns : goal.returns
returns c = ((left_end c.loop-at.invariant.left c.loop-at-test.false).0, entry_end c.loop-at.invariant c.loop-at-test.false c.store.ensures)
