-- `named::add_entry` meets its contract: the name of `machine` is added; then the invariant is that the names of the first k items are, with their prints beside them.
-- Assumes nothing.
use Prim.Native.Nat.{◌-◌, ◌≤◌}
use Rattle.named.specs.laws.Kept.{Printed}
use Rattle.named.specs.laws.Held.{Added}
use Rattle.named.specs.laws.Filled.{up_to, item_name}
use Rattle.named.proofs.add_entry.Given as goal

abbrev pub invariant-loop-k : goal.invariant-loop-k
invariant-loop-k l = (l.k ≤ l.items) × Added l.s (up_to (item_name l.ix l.i) l.k) l.initial.names l.initial.m.held l.names l.m.held × Printed l.s l.names l.prints l.m.held

abbrev pub decreases-loop-k : goal.decreases-loop-k
decreases-loop-k l = l.items - l.k
