-- `fills::fill` meets its contract: where a manifest object stands it is walked; where none does, it has no columns, and the index of zeros is its index.
-- Assumes nothing.
use Prim.Native.Nat.{ℕ}
use lib.ListN.{length-replicate}
use Rattle.fills.specs.laws.Blank.{blank_zeros}
use Rattle.fills.proofs.Turns.{none_many, zeros_index}
use Rattle.fills.proofs.fill.Goals as goal

pub store_head-requires : goal.store_head-requires
store_head-requires c = (c.is_there.ensures.yes c.if-is_there.true, length-replicate {A = ℕ} 2470 0, blank_zeros 2470)

pub returns-then-is_there : goal.returns-then-is_there
returns-then-is_there c = let e = c.store_head.ensures in (c.too_many.ensures _ _ e, e)

pub returns : goal.returns
returns c = (none_many _ _ (c.is_there.ensures.no c.if-is_there.false), zeros_index _ _ (c.is_there.ensures.no c.if-is_there.false))
