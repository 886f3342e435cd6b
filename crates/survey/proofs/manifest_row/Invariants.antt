-- `survey::manifest_row` meets its contract: the invariant is that of `row`, and that `files` is in the index, and `trace_time` kept, each if its column is not
-- free. Assumes nothing.
use Prim.Native.Nat.{◌-◌}
use lib.ListN.{length}
use Rattle.survey.specs.laws.Walked.{ManifestHolds}
use Rattle.survey.proofs.Walking.{Walking}
use Rattle.survey.proofs.manifest_row.Given as goal

abbrev pub invariant-loop-found : goal.invariant-loop-found
invariant-loop-found l = Walking 11 14 l.s l.at l.i l.found × ManifestHolds l.s l.found l.initial.ix l.ix l.initial.trace l.trace

abbrev pub decreases-loop-found : goal.decreases-loop-found
decreases-loop-found l = length l.s - l.i
