-- `fills::store_head` meets its contract. The invariant: the row and the entries are those of what was met, and with the members that are left that gives
-- the columns. At the end the row is put before the entries, and no number of before is left. Assumes nothing.
use Rattle.fills.proofs.Passed.{ahead}
use Rattle.fills.proofs.Turns.{HeadLeft}
use Rattle.fills.proofs.store_head.Given as goal

abbrev pub invariant-loop-at : goal.invariant-loop-at
invariant-loop-at l = HeadLeft l.s l.p l.at l.initial.ix l.row l.ix

abbrev pub decreases-loop-at : goal.decreases-loop-at
decreases-loop-at l = ahead l.s l.at
