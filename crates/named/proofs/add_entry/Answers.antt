-- `named::add_entry` meets its contract: the name of `machine` is added; then the invariant is that the names of the first k items are, with their prints beside them.
-- Assumes nothing.
use native.Mathlib.Omega.{arith}
use Rattle.named.specs.laws.Filled.{up_to_start, item_next, entry_done}
use Rattle.named.proofs.add_entry.Goals as goal

pub add-m-requires : goal.add-m-requires
add-m-requires c = (c.requires.0, c.requires.1, c.requires.2)

pub loop-k-init : goal.loop-k-init
loop-k-init c = (omega arith, up_to_start _ _ c.add-m.ensures.0.long c.add-m.ensures.0.few, c.add-m.ensures.1)

pub add-m-requires-in-loop-k : goal.add-m-requires-in-loop-k
add-m-requires-in-loop-k c = (c.loop-k.invariant.1.long, c.loop-k.invariant.1.few, c.loop-k.invariant.2)

pub loop-k-preserved : goal.loop-k-preserved
loop-k-preserved c = (omega arith, item_next _ _ _ _ c.loop-k.invariant.1 c.item-p.ensures c.add-m-in-loop-k.ensures.0, c.add-m-in-loop-k.ensures.1)

pub returns : goal.returns
returns c = (entry_done _ _ _ _ c.machine_name-name.ensures c.add-m.ensures.0 c.items-items.ensures c.loop-k.invariant.0 c.loop-k-test.false c.loop-k.invariant.1, c.loop-k.invariant.2)
