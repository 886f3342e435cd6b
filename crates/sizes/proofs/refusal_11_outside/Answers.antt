-- `sizes::refusal_11_outside` meets its contract: the one clock in `trace_time` decides.
-- Assumes nothing.
use Rattle.sizes.proofs.Clock.{trace_clock_decides}
use Rattle.sizes.proofs.refusal_11_outside.Goals as goal

pub returns : goal.returns
returns c = trace_clock_decides c.args.s.now c.args.ix.now c.inside-clock.ensures c.unknown_clock.ensures
