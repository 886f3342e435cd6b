-- `values::same_bytes` meets its contract: the loop keeps that the bytes passed are the same, and that both texts have room for those left.
-- Assumes nothing.
use Rattle.values.specs.laws.Raws.{Equal}
use Prim.Native.Nat.{◌≤◌, ◌-◌}
use Rattle.values.proofs.same_bytes.Given as goal

abbrev pub invariant-loop-n : goal.invariant-loop-n
invariant-loop-n l = (l.n ≤ l.last) × Equal l.s l.i l.t l.k l.n

abbrev pub decreases-loop-n : goal.decreases-loop-n
decreases-loop-n l = l.last - l.n
