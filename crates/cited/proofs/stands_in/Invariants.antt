-- `cited::stands_in` meets its contract: the text at a position is the same as itself, whatever stands there. The loop passes over the items, and nothing is said of those before.
-- Assumes nothing.
use Prim.Native.Nat.{◌-◌, ◌≤◌}
use Rattle.cited.proofs.stands_in.Given as goal

abbrev pub invariant-loop-k : goal.invariant-loop-k
invariant-loop-k l = l.k ≤ l.n

abbrev pub decreases-loop-k : goal.decreases-loop-k
decreases-loop-k l = l.n - l.k
