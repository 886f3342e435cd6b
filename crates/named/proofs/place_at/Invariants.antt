-- `named::place_at` meets its contract: a place below n is returned only where the position is p. The loop keeps nothing in mind. Assumes nothing.
use Prim.Native.Nat.{◌-◌}
use Rattle.named.proofs.place_at.Given as goal

abbrev pub invariant-loop-k : goal.invariant-loop-k
invariant-loop-k l = Unit {0}

abbrev pub decreases-loop-k : goal.decreases-loop-k
decreases-loop-k l = l.n - l.k
