-- `text::plain_marks` meets its contract: the loop keeps the sum of the i answers so far, the next weight, and that the two make the whole with what is left.
-- Assumes nothing.
use Prim.Native.Nat.{◌≤◌, ◌-◌}
use Rattle.text.specs.laws.Marks.{Summed}
use Rattle.text.specs.laws.Plain.{own_at}
use Rattle.text.proofs.plain_marks.Given as goal

abbrev pub invariant-loop-i : goal.invariant-loop-i
invariant-loop-i l = (l.i ≤ 8) × Summed (own_at l.s l.at) l.m l.w l.i

abbrev pub decreases-loop-i : goal.decreases-loop-i
decreases-loop-i l = 8 - l.i
