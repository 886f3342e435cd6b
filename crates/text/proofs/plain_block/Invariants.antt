-- `text::plain_block` meets its contract: the loop keeps that n of the i bytes passed are plain, and that the run of plain bytes goes on past them where all are. So it does where 16 of 16 were counted.
-- Assumes nothing.
use Rattle.text.specs.laws.Plain.{Counted}
use Prim.Native.Nat.{◌≤◌, ◌-◌}
use Rattle.text.proofs.plain_block.Given as goal

abbrev pub invariant-loop-i : goal.invariant-loop-i
invariant-loop-i l = (l.i ≤ 16) × Counted l.s l.at l.n l.i

abbrev pub decreases-loop-i : goal.decreases-loop-i
decreases-loop-i l = 16 - l.i
