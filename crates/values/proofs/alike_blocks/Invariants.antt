-- `values::alike_blocks` meets its contract: the loop keeps that the n bytes passed are plain and the same, and that as many are left in the text; a block of such bytes keeps it so.
-- Assumes nothing.
use Prim.Native.Nat.{◌≤◌, ◌-◌}
use Rattle.values.specs.laws.Alike.{Alike}
use Rattle.values.proofs.alike_blocks.Given as goal

abbrev pub invariant-loop-n : goal.invariant-loop-n
invariant-loop-n l = (l.n ≤ l.last) × Alike l.s l.i l.t l.k l.n

abbrev pub decreases-loop-n : goal.decreases-loop-n
decreases-loop-n l = l.last - l.n
