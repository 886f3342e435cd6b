-- `step_unknown` is the step over a record of no kind: cut off or not, it is refused. Assumes nothing.
use Rattle.std.proofs.Common.{lt-ltb, le-ltb}
use Rattle.records.specs.Layout.{pick}
use Rattle.records.specs.Faults.{fault_of, step_for}
use Rattle.records.proofs.step_unknown.Goals as goal

pub returns-then-s-st : goal.returns-then-s-st
unfolding step_for fault_of pick
returns-then-s-st c = simp (lt-ltb _ _ c.if-s-st.true)

pub returns-else-s-st : goal.returns-else-s-st
unfolding step_for fault_of pick
returns-else-s-st c = simp (le-ltb _ _ c.if-s-st.false)
