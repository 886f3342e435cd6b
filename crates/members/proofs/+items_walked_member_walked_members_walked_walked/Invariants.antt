-- `members::walked`, `items_walked`, `member_walked` and `members_walked`, which call each other, meet their contracts. They end since the kind's number falls
-- from an object to its members and from an array to its items: four times the number, and 3, 4, 1 and 2. The loops keep that what was found so far, with what
-- the items or members still to come hold, is what all of them hold (`Sum`). Each answer is a step of the walk in the code's own values (`Standing`, `Walking`).
-- Assumes nothing.
use Prim.Native.Nat.{◌+◌, ◌*◌, ◌-◌}
use lib.ListN.{length}
use Rattle.members.proofs.Walking.{ItemsLeft, MembersLeft}
use Rattle.members.proofs.+items_walked_member_walked_members_walked_walked.Given as goal

abbrev pub decreases-items_walked : goal.decreases-items_walked
decreases-items_walked l = 4 * l.kind + 4

abbrev pub decreases-member_walked : goal.decreases-member_walked
decreases-member_walked l = 4 * l.object + 1

abbrev pub decreases-members_walked : goal.decreases-members_walked
decreases-members_walked l = 4 * l.object + 2

abbrev pub decreases-walked : goal.decreases-walked
decreases-walked l = 4 * l.kind + 3

abbrev pub invariant-items_walked-loop-at : goal.invariant-items_walked-loop-at
invariant-items_walked-loop-at l = ItemsLeft l.kind l.s l.at l.i l.twice l.ill

abbrev pub decreases-items_walked-loop-at : goal.decreases-items_walked-loop-at
decreases-items_walked-loop-at l = length l.s - l.i

abbrev pub invariant-members_walked-loop-seen : goal.invariant-members_walked-loop-seen
invariant-members_walked-loop-seen l = MembersLeft l.object l.s l.at l.i l.seen l.twice l.ill

abbrev pub decreases-members_walked-loop-seen : goal.decreases-members_walked-loop-seen
decreases-members_walked-loop-seen l = length l.s - l.i
