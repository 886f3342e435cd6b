-- `fills::clocks_met` meets its contract. The invariant: the row is that of what was met, and with the members that are left that gives the columns. What is ahead of the text falls.
-- Assumes nothing.
use Rattle.fills.proofs.Passed.{ahead}
use Rattle.fills.proofs.Turns.{ClocksLeft}
use Rattle.fills.proofs.clocks_met.Given as goal

abbrev pub invariant-loop-at : goal.invariant-loop-at
invariant-loop-at l = ClocksLeft l.s l.p l.at l.initial.row l.row

abbrev pub decreases-loop-at : goal.decreases-loop-at
decreases-loop-at l = ahead l.s l.at
