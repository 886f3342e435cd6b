-- `values::twice_block` meets its contract: the loop keeps that n of the j bytes passed are plain and the same, and that all are where n is j. So they are where 16 of 16 were counted.
-- Assumes nothing.
use Prim.Native.Nat.{◌≤◌, ◌-◌}
use Rattle.values.specs.laws.Alike.{Counted}
use Rattle.values.proofs.twice_block.Given as goal

abbrev pub invariant-loop-j : goal.invariant-loop-j
invariant-loop-j l = (l.j ≤ 16) × Counted l.s l.i l.t l.k l.n l.j

abbrev pub decreases-loop-j : goal.decreases-loop-j
decreases-loop-j l = 16 - l.j
