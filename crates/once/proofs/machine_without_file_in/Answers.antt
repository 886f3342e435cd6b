-- `once::machine_without_file_in` meets its contract: a member is absent where its position is 0.
-- Assumes nothing.
use Rattle.once.proofs.MachineAlone.{machine_no_clocks, machine_no_sync, machine_none, machine_alone}
use Rattle.once.proofs.machine_without_file_in.Goals as goal

pub returns-then-col-eq0 : goal.returns-then-col-eq0
returns-then-col-eq0 c = machine_no_clocks c.args.s.now c.args.ix.now c.args.i c.col.ensures c.if-col-eq0.true

pub returns-then-col-eq0-2 : goal.returns-then-col-eq0-2
returns-then-col-eq0-2 c = machine_no_sync c.args.s.now c.args.ix.now c.args.i c.col.ensures c.if-col-eq0.false c.col-2.ensures c.if-col-eq0-2.true

pub returns-then-col-eq0-3 : goal.returns-then-col-eq0-3
returns-then-col-eq0-3 c = machine_none c.args.s.now c.args.ix.now c.args.i c.col.ensures c.if-col-eq0.false c.col-2.ensures c.if-col-eq0-2.false c.col-3.ensures c.if-col-eq0-3.true

pub returns : goal.returns
returns c = machine_alone c.args.s.now c.args.ix.now c.args.i c.col.ensures c.if-col-eq0.false c.col-2.ensures c.if-col-eq0-2.false c.col-3.ensures c.if-col-eq0-3.false c.col-4.ensures
