-- `listed::same_blocks` meets its contract: the loop keeps that the k bytes passed are the same and no more than n; a block of 16 such bytes after them keeps it so.
-- Assumes nothing.
use Prim.Native.Nat.{◌≤◌, ◌-◌}
use Rattle.listed.specs.laws.Parts.{Agree}
use Rattle.listed.proofs.same_blocks.Given as goal

abbrev pub invariant-loop-k : goal.invariant-loop-k
invariant-loop-k l = (l.k ≤ l.n) × Agree l.texts l.i l.j l.k

abbrev pub decreases-loop-k : goal.decreases-loop-k
decreases-loop-k l = l.n - l.k
