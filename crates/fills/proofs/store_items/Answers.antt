-- `fills::store_items` meets its contract. The invariant: k items are passed, and the rows of the first 32 of them are put in; past the last one
-- all is 0 from the start. Assumes nothing.
use mathlib.Core.Path.{◌∙◌}
use native.Mathlib.Omega.{arith}
use Rattle.index.proofs.laws.Put.{put_length}
use Rattle.fills.proofs.Passed.{pass_end, pass_falls, pass_fits, pass_here, pass_inside, pass_on, pass_start, pass_there}
use Rattle.fills.proofs.Made.{items_end, items_more, items_start}
use Rattle.fills.proofs.store_items.Goals as goal

pub first_in-at-requires : goal.first_in-at-requires
first_in-at-requires c = (omega arith, omega arith)

pub loop-at-init : goal.loop-at-init
loop-at-init c = (pass_start c.requires.2 c.first_in-at.ensures, items_start _ _ _ (omega (arith, c.requires.0, c.requires.1)))

pub store_item-e-requires : goal.store_item-e-requires
store_item-e-requires c = (put_length c.loop-at.invariant.1 ∙ c.requires.0, c.requires.1, pass_there c.loop-at.invariant.0 c.loop-at-test.true)

pub overflow_add-k : goal.overflow_add-k
overflow_add-k c = omega (arith, pass_fits c.loop-at.invariant.0 c.loop-at-test.true c.store_item-e.ensures.0)

pub after-at-requires : goal.after-at-requires
after-at-requires c = pass_inside c.loop-at.invariant.0 c.loop-at-test.true c.store_item-e.ensures.0

pub loop-at-smaller : goal.loop-at-smaller
loop-at-smaller c = pass_falls c.loop-at.invariant.0 c.loop-at-test.true c.store_item-e.ensures.0 c.after-at.ensures

pub loop-at-preserved : goal.loop-at-preserved
loop-at-preserved c = (pass_on c.loop-at.invariant.0 c.loop-at-test.true c.store_item-e.ensures.0 c.after-at.ensures, items_more _ _ _ _ c.loop-at.invariant.1 (pass_here c.loop-at.invariant.0 c.loop-at-test.true) c.store_item-e.ensures.1)

pub returns : goal.returns
returns c = let w = pass_end c.loop-at.invariant.0 c.loop-at-test.false in (w.0, w.1, items_end _ _ _ _ c.requires.0 c.requires.1 c.requires.3 w.0 c.loop-at.invariant.1)
