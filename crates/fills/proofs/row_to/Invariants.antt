-- `fills::row_to` meets its contract. The invariant: what was met, with the members that are left, gives the three columns. What is ahead of the text falls.
-- Assumes nothing.
use Rattle.fills.proofs.Passed.{ahead}
use Rattle.fills.proofs.Steps.{RowLeft}
use Rattle.fills.proofs.row_to.Given as goal

abbrev pub invariant-loop-at : goal.invariant-loop-at
invariant-loop-at l = RowLeft l.s l.p l.n0 l.n1 l.n2 l.at l.p0 l.p1 l.p2

abbrev pub decreases-loop-at : goal.decreases-loop-at
decreases-loop-at l = ahead l.s l.at
