-- `outline::versions` meets its contract. One version, found with its place, decides alone. Of several, the loop's invariant: the members that are left decide, those passed being no wrong version. What is ahead of the text falls. Assumes nothing.
use Rattle.outline.proofs.Walk.{Walking, ahead}
use Rattle.outline.proofs.versions.Given as goal

abbrev pub invariant-loop-member : goal.invariant-loop-member
invariant-loop-member l = Walking l.s l.at l.member

abbrev pub decreases-loop-member : goal.decreases-loop-member
decreases-loop-member l = ahead l.s l.member
