-- `survey::row` meets its contract: the invariant is that the members so far were read, and each column holds what stands under its line's name.
-- Assumes nothing.
use Prim.Native.Nat.{◌-◌}
use lib.ListN.{length}
use Rattle.survey.proofs.Walking.{Walking}
use Rattle.survey.proofs.row.Given as goal

abbrev pub invariant-loop-found : goal.invariant-loop-found
invariant-loop-found l = Walking l.object l.levels l.s l.at l.i l.found

abbrev pub decreases-loop-found : goal.decreases-loop-found
decreases-loop-found l = length l.s - l.i
