-- `sizes::refusal_11_within` meets its contract: an entry cites at most one clock in `clocks` and one in `sync_to`, and they are asked in that order.
-- Assumes nothing.
use Rattle.sizes.proofs.Clock.{own_clock_unknown, sync_clock_decides}
use Rattle.sizes.proofs.refusal_11_within.Goals as goal

pub returns-then-unknown_clock : goal.returns-then-unknown_clock
returns-then-unknown_clock c = own_clock_unknown c.args.s.now c.args.ix.now c.args.i c.col-clocks.ensures c.col-2.ensures c.inside-own_clock.ensures c.unknown_clock.ensures c.if-unknown_clock.true

pub returns : goal.returns
returns c = sync_clock_decides c.args.s.now c.args.ix.now c.args.i c.col-clocks.ensures c.col-2.ensures c.inside-own_clock.ensures c.unknown_clock.ensures c.if-unknown_clock.false c.col.ensures c.inside-sync.ensures c.col-3.ensures c.inside-clock.ensures c.unknown_clock-2.ensures
