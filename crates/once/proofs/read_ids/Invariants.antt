-- `once::read_ids` meets its contract: the invariant is that the table holds the ids of the first k items, and that those left decide whether one is out of range. Assumes nothing.
use Prim.Native.Nat.{◌-◌, ◌≤◌}
use Rattle.once.proofs.Twice.{Reading}
use Rattle.once.proofs.read_ids.Given as goal

abbrev pub invariant-loop-k : goal.invariant-loop-k
invariant-loop-k l = (l.k ≤ l.n) × Reading l.s l.ix l.i l.k l.table

abbrev pub decreases-loop-k : goal.decreases-loop-k
decreases-loop-k l = l.n - l.k
