-- `sizes::refusal_11_unknown_clock_name` meets its contract: `trace_time` is asked first. The loop's invariant: the entries from number i on decide.
-- Assumes nothing.
use Rattle.manifest.specs.Rules.{refusal_11_unknown_clock_name}
use Rattle.sizes.proofs.Judged.{outside_hit, outside_miss, within_hit, within_miss, within_none}
use Rattle.sizes.proofs.refusal_11_unknown_clock_name.Goals as goal

pub returns-then-refusal_11_outside : goal.returns-then-refusal_11_outside
returns-then-refusal_11_outside c = outside_hit refusal_11_unknown_clock_name c.args.s.now c.args.ix.now c.refusal_11_outside.ensures c.if-refusal_11_outside.true

pub loop-i-init : goal.loop-i-init
loop-i-init c = outside_miss refusal_11_unknown_clock_name c.args.s.now c.args.ix.now c.refusal_11_outside.ensures c.if-refusal_11_outside.false

pub returns-then-refusal_11_within : goal.returns-then-refusal_11_within
returns-then-refusal_11_within c = within_hit refusal_11_unknown_clock_name c.args.s.now c.args.ix.now c.entries-n.ensures c.loop-i.invariant c.loop-i-test.true c.refusal_11_within.ensures c.if-refusal_11_within.true

pub loop-i-preserved : goal.loop-i-preserved
loop-i-preserved c = within_miss refusal_11_unknown_clock_name c.args.s.now c.args.ix.now c.entries-n.ensures c.loop-i.invariant c.loop-i-test.true c.refusal_11_within.ensures c.if-refusal_11_within.false

pub returns : goal.returns
returns c = within_none refusal_11_unknown_clock_name c.args.s.now c.args.ix.now c.entries-n.ensures c.loop-i.invariant c.loop-i-test.false
