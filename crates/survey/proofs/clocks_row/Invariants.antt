-- `survey::clocks_row` meets its contract: the invariant is that of `row`, and that the row of `sync_to` is kept if its column is not free.
-- Assumes nothing.
use Prim.Native.Nat.{◌-◌}
use lib.ListN.{length, get_or}
use Rattle.survey.specs.laws.Walked.{RowAt, Holds}
use Rattle.survey.proofs.Walking.{Walking}
use Rattle.survey.proofs.clocks_row.Given as goal

abbrev pub invariant-loop-found : goal.invariant-loop-found
invariant-loop-found l = Walking 4 11 l.s l.at l.i l.found × Holds (RowAt 3 10 l.s) (get_or l.found 3 0) l.initial.sync l.sync

abbrev pub decreases-loop-found : goal.decreases-loop-found
decreases-loop-found l = length l.s - l.i
