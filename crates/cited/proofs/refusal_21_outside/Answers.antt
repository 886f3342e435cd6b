-- `cited::refusal_21_outside` meets its contract: `trace_time` counts only where it stands; which entry its `file` names is known.
-- Assumes nothing.
use Rattle.cited.specs.laws.Files.{named_by_trace}
use Rattle.cited.specs.laws.Rule21.{strange_by_entry, no_trace_21, trace_21_said}
use Rattle.cited.proofs.refusal_21_outside.Goals as goal

pub returns-then-ix-eq0 : goal.returns-then-ix-eq0
returns-then-ix-eq0 c = no_trace_21 c.args.s.now c.args.ix.now c.if-ix-eq0.true

pub returns : goal.returns
returns c = trace_21_said c.args.s.now c.args.ix.now c.if-ix-eq0.false (strange_by_entry c.args.s.now c.args.ix.now c.args.trace _ _ (named_by_trace c.args.s.now c.args.ix.now c.requires) c.is_strange.ensures)
