-- `survey::entry_row` meets its contract: the invariant is that of `row`, and that `machines` is in the index, and `machine` and `clocks` are kept, each if its
-- column is not free. Assumes nothing.
use Prim.Native.Nat.{◌-◌}
use lib.ListN.{length}
use Rattle.survey.specs.laws.Walked.{EntryHolds}
use Rattle.survey.proofs.Walking.{Walking}
use Rattle.survey.proofs.entry_row.Given as goal

abbrev pub invariant-loop-found : goal.invariant-loop-found
invariant-loop-found l = Walking 8 12 l.s l.at l.i l.found × EntryHolds l.s l.base l.found l.initial.ix l.ix l.initial.machine l.machine l.initial.clocks l.clocks

abbrev pub decreases-loop-found : goal.decreases-loop-found
decreases-loop-found l = length l.s - l.i
