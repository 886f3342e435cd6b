-- `once::machine_without_file_in_trace_time` meets its contract: a member is absent where its position is 0.
-- Assumes nothing.
use Rattle.once.proofs.MachineAlone.{trace_none, trace_no_machine, trace_machine_alone}
use Rattle.once.proofs.machine_without_file_in_trace_time.Goals as goal

pub returns-then-ix-eq0 : goal.returns-then-ix-eq0
returns-then-ix-eq0 c = trace_none c.args.s.now c.args.ix.now c.if-ix-eq0.true

pub returns-then-ix-eq0-2 : goal.returns-then-ix-eq0-2
returns-then-ix-eq0-2 c = trace_no_machine c.args.s.now c.args.ix.now c.if-ix-eq0.false c.if-ix-eq0-2.true

pub returns : goal.returns
returns c = trace_machine_alone c.args.s.now c.args.ix.now c.if-ix-eq0.false c.if-ix-eq0-2.false
