-- `listed::settle_items` meets its contract: the invariant is that the cells of the items from number k on lead to the end, from a state that reads as the one at the beginning, and that what
-- was found so far and those items decide whether a name is too long, and whether one is empty. Assumes nothing.
use mathlib.Core.Bool.{◌||◌}
use mathlib.Core.Path.{◌≡◌}
use Prim.Native.Nat.{◌-◌}
use Rattle.manifest.specs.Rows.{any}
use Rattle.manifest.specs.Rules.{outside_of, is_empty}
use Rattle.index.specs.Index.{listed}
use Rattle.listed.specs.Settled.{item_cell, cells_settled}
use Rattle.listed.specs.laws.Parts.{Table, so_far, item_names}
use Rattle.listed.specs.laws.Sized.{from_item}
use Rattle.listed.specs.laws.Onward.{Onward, items_left}
use Rattle.listed.proofs.settle_items.Given as goal

abbrev pub invariant-loop-k : goal.invariant-loop-k
invariant-loop-k l = Table l.s l.firsts l.prints l.lengths l.texts l.held × Onward l.s l.initial.ix (cells_settled l.s (listed (item_cell l.i) 0 l.items) (so_far l.initial.firsts l.n l.initial.ix)) (items_left l.i l.items l.k) (so_far l.firsts l.held l.ix) × (any (outside_of 0 64) (item_names l.s l.initial.ix l.i) ≡ (l.broken || from_item (outside_of 0 64) l.s l.initial.ix l.i l.k)) × (any is_empty (item_names l.s l.initial.ix l.i) ≡ (l.empty || from_item is_empty l.s l.initial.ix l.i l.k))

abbrev pub decreases-loop-k : goal.decreases-loop-k
decreases-loop-k l = l.items - l.k
