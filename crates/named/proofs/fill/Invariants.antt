-- `named::fill` meets its contract: the invariant is that the names of the first i entries are added to a table of zeros, with their prints beside them; when all are added it is the table of the names.
-- Assumes nothing.
use Prim.Native.Nat.{◌-◌, ◌≤◌}
use lib.ListN.{replicate}
use Rattle.named.specs.Named.{declared_at}
use Rattle.named.specs.laws.Kept.{Printed}
use Rattle.named.specs.laws.Held.{Added}
use Rattle.named.specs.laws.Filled.{up_to}
use Rattle.named.proofs.fill.Given as goal

abbrev pub invariant-loop-i : goal.invariant-loop-i
invariant-loop-i l = (l.i ≤ l.entries) × Added l.s (up_to (declared_at l.ix) l.i) (replicate 32 0) 0 l.positions l.t.held × Printed l.s l.positions l.prints l.t.held

abbrev pub decreases-loop-i : goal.decreases-loop-i
decreases-loop-i l = l.entries - l.i
