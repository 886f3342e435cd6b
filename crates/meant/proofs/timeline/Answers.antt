-- `meant::timeline` meets its contract: without `trace_time` unset; else the domain and the machine that were found. Assumes nothing.
use Rattle.meant.proofs.Steps.{timeline_unset, timeline_set}
use Rattle.meant.proofs.timeline.Goals as goal

pub returns-then-ix-eq0 : goal.returns-then-ix-eq0
returns-then-ix-eq0 c = timeline_unset c.args.s.now c.args.ix.now c.args.lookups.now c.if-ix-eq0.true

pub returns : goal.returns
returns c = timeline_set c.args.s.now c.args.ix.now c.args.lookups.now c.if-ix-eq0.false c.domain-domain.ensures c.trace_machine_at-at.ensures c.number_at-whose.ensures
