-- `cited::refusal_19_outside` meets its contract: a `file` counts only where `trace_time` stands; which entry it names is known.
-- Assumes nothing.
use Rattle.cited.specs.laws.Files.{cites_none, cites_by_trace}
use Rattle.cited.proofs.laws.Rule19.{no_trace_19, trace_19}
use Rattle.cited.proofs.refusal_19_outside.Goals as goal

pub returns-then-ix-eq0 : goal.returns-then-ix-eq0
returns-then-ix-eq0 c = no_trace_19 c.args.s.now c.args.ix.now c.if-ix-eq0.true

pub returns-then-ix-eq0-2 : goal.returns-then-ix-eq0-2
returns-then-ix-eq0-2 c = trace_19 c.args.s.now c.args.ix.now c.if-ix-eq0.false (cites_none c.args.s.now c.args.ix.now _ c.if-ix-eq0-2.true)

pub returns : goal.returns
returns c = trace_19 c.args.s.now c.args.ix.now c.if-ix-eq0.false (cites_by_trace c.args.s.now c.args.ix.now c.requires c.if-ix-eq0-2.false)
