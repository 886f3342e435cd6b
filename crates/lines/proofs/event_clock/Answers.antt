-- `lines::event_clock` meets its contract: each way out is one way through the two tests of an event's clock. Assumes nothing.
use Rattle.lines.specs.laws.Tables.{clock_pinned, clock_zero, clock_named}
use Rattle.lines.proofs.event_clock.Goals as goal

pub returns-then-is_pinned_file : goal.returns-then-is_pinned_file
returns-then-is_pinned_file c = clock_pinned c.args.t.now c.args.machines.now c.args.e c.source_file-f.ensures.0 c.is_pinned_file.ensures c.if-is_pinned_file.true c.private_of.ensures

pub returns-then-e-eq0 : goal.returns-then-e-eq0
returns-then-e-eq0 c = clock_zero c.args.t.now c.args.machines.now c.args.e c.source_file-f.ensures.0 c.is_pinned_file.ensures c.if-is_pinned_file.false c.if-e-eq0.true c.private_of-then-e-eq0.ensures

pub returns : goal.returns
returns c = clock_named c.args.t.now c.args.machines.now c.args.e c.source_file-f.ensures.0 c.is_pinned_file.ensures c.if-is_pinned_file.false c.if-e-eq0.false c.source_clock.ensures
