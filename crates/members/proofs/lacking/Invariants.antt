-- `members::lacking` meets its contract: the invariant is that the object's lines that were passed lack nothing; no other line is about the object.
-- Assumes nothing.
use Prim.Native.Nat.{◌-◌}
use Rattle.members.specs.laws.Lacking.{Full}
use Rattle.members.proofs.lacking.Given as goal

abbrev pub invariant-loop-line : goal.invariant-loop-line
invariant-loop-line l = Full l.object l.seen l.line

abbrev pub decreases-loop-line : goal.decreases-loop-line
decreases-loop-line l = l.past - l.line
