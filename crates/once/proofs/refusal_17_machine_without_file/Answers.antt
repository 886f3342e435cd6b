-- `once::refusal_17_machine_without_file` meets its contract: `trace_time` is looked at, then the entries; the invariant is that those from number i on decide.
-- Assumes nothing.
use Rattle.manifest.specs.Rules.{refusal_17_machine_without_file}
use Rattle.once.proofs.Loops.{loop_outside, loop_start, loop_past, loop_found, loop_on}
use Rattle.once.proofs.refusal_17_machine_without_file.Goals as goal

pub returns-then-machine_without_file_in_trace_time : goal.returns-then-machine_without_file_in_trace_time
returns-then-machine_without_file_in_trace_time c = loop_outside refusal_17_machine_without_file c.args.s.now c.args.ix.now c.machine_without_file_in_trace_time.ensures c.if-machine_without_file_in_trace_time.true

pub loop-i-init : goal.loop-i-init
loop-i-init c = loop_start refusal_17_machine_without_file c.args.s.now c.args.ix.now c.machine_without_file_in_trace_time.ensures c.if-machine_without_file_in_trace_time.false

pub returns-then-machine_without_file_in : goal.returns-then-machine_without_file_in
returns-then-machine_without_file_in c = loop_found refusal_17_machine_without_file c.args.s.now c.args.ix.now c.entries-n.ensures c.loop-i.invariant c.loop-i-test.true c.machine_without_file_in.ensures c.if-machine_without_file_in.true

pub loop-i-preserved : goal.loop-i-preserved
loop-i-preserved c = loop_on refusal_17_machine_without_file c.args.s.now c.args.ix.now c.entries-n.ensures c.loop-i.invariant c.loop-i-test.true c.machine_without_file_in.ensures c.if-machine_without_file_in.false

pub returns : goal.returns
returns c = loop_past refusal_17_machine_without_file c.args.s.now c.args.ix.now c.entries-n.ensures c.loop-i.invariant c.loop-i-test.false
