-- `fills::store_entry` meets its contract. The invariant: the row and the items are those of what was met, and with the members that are left that gives
-- the columns. At the end the row is put before the items, which is the entry's block. Assumes nothing.
use Rattle.fills.proofs.Passed.{ahead}
use Rattle.fills.proofs.Turns.{EntryLeft}
use Rattle.fills.proofs.store_entry.Given as goal

abbrev pub invariant-loop-at : goal.invariant-loop-at
invariant-loop-at l = EntryLeft l.s l.p l.base l.at l.initial.ix l.row l.ix

abbrev pub decreases-loop-at : goal.decreases-loop-at
decreases-loop-at l = ahead l.s l.at
