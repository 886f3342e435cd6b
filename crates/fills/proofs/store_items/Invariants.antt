-- `fills::store_items` meets its contract. The invariant: k items are passed, and the rows of the first 32 of them are put in; past the last one
-- all is 0 from the start. Assumes nothing.
use Prim.Native.Nat.{min}
use lib.ListN.{get_or}
use Rattle.index.specs.Index.{item_row, items_of, rows}
use Rattle.index.proofs.laws.Put.{Put}
use Rattle.fills.proofs.Passed.{Passed, ahead}
use Rattle.fills.proofs.store_items.Given as goal

abbrev pub invariant-loop-at : goal.invariant-loop-at
invariant-loop-at l = Passed l.s l.p l.k l.at × Put l.initial.ix l.base (rows (λ j. item_row l.s (get_or (items_of l.s l.p) j 0)) (min 32 l.k)) l.ix

abbrev pub decreases-loop-at : goal.decreases-loop-at
decreases-loop-at l = ahead l.s l.at
