-- `survey::lacking` meets its contract: the invariant is that the columns asked for before the line are not free.
-- Assumes nothing.
use Prim.Native.Nat.{◌-◌}
use Rattle.survey.proofs.Stepping.{Filled}
use Rattle.survey.proofs.lacking.Given as goal

abbrev pub invariant-loop-line : goal.invariant-loop-line
invariant-loop-line l = Filled l.object l.found l.line

abbrev pub decreases-loop-line : goal.decreases-loop-line
decreases-loop-line l = l.past - l.line
