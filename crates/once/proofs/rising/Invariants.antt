-- `once::rising` meets its contract: the invariant is that the numbers up to place k rise, and of numbers that rise each is less than all after it. Assumes nothing.
use Prim.Native.Nat.{◌-◌, ◌≤◌}
use Rattle.once.proofs.Twice.{RisesTo}
use Rattle.once.proofs.rising.Given as goal

abbrev pub invariant-loop-k : goal.invariant-loop-k
invariant-loop-k l = (1 ≤ l.k) × RisesTo l.table l.k

abbrev pub decreases-loop-k : goal.decreases-loop-k
decreases-loop-k l = l.n - l.k
