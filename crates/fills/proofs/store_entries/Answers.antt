-- `fills::store_entries` meets its contract. The invariant: i entries are passed, and the blocks of the first 32 of them are put in; past the last one
-- all is 0 from the start. Assumes nothing.
use mathlib.Core.Path.{◌∙◌}
use native.Mathlib.Omega.{arith}
use Rattle.index.proofs.laws.Put.{put_length}
use Rattle.fills.proofs.Passed.{pass_end, pass_falls, pass_fits, pass_here, pass_inside, pass_on, pass_start, pass_there}
use Rattle.fills.proofs.Made.{entries_blank, entries_end, entries_more, entries_start}
use Rattle.fills.proofs.store_entries.Goals as goal

pub first_in-at-requires : goal.first_in-at-requires
first_in-at-requires c = (omega arith, omega arith)

pub loop-at-init : goal.loop-at-init
loop-at-init c = (pass_start c.requires.1 c.first_in-at.ensures, entries_start _ _ c.requires.0)

pub store_held-e-requires : goal.store_held-e-requires
store_held-e-requires c = (put_length c.loop-at.invariant.1 ∙ c.requires.0, pass_there c.loop-at.invariant.0 c.loop-at-test.true, entries_blank _ _ _ c.requires.2 c.loop-at.invariant.1)

pub overflow_add-i : goal.overflow_add-i
overflow_add-i c = omega (arith, pass_fits c.loop-at.invariant.0 c.loop-at-test.true c.store_held-e.ensures.0)

pub after-at-requires : goal.after-at-requires
after-at-requires c = pass_inside c.loop-at.invariant.0 c.loop-at-test.true c.store_held-e.ensures.0

pub loop-at-smaller : goal.loop-at-smaller
loop-at-smaller c = pass_falls c.loop-at.invariant.0 c.loop-at-test.true c.store_held-e.ensures.0 c.after-at.ensures

pub loop-at-preserved : goal.loop-at-preserved
loop-at-preserved c = (pass_on c.loop-at.invariant.0 c.loop-at-test.true c.store_held-e.ensures.0 c.after-at.ensures, entries_more _ _ _ c.loop-at.invariant.1 (pass_here c.loop-at.invariant.0 c.loop-at-test.true) c.store_held-e.ensures.1)

pub returns : goal.returns
returns c = let w = pass_end c.loop-at.invariant.0 c.loop-at-test.false in (w.0, w.1, entries_end _ _ _ c.requires.0 c.requires.2 w.0 c.loop-at.invariant.1)
