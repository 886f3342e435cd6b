-- `meant::machine_at` meets its contract: for a file that is not split, and without a `machine`, it is the base machine. Assumes nothing.
use Rattle.meant.proofs.Steps.{machine_whole, machine_base, machine_own}
use Rattle.meant.proofs.machine_at.Goals as goal

pub returns-then-col-eq0 : goal.returns-then-col-eq0
returns-then-col-eq0 c = machine_whole c.args.s.now c.args.ix.now _ _ c.col.ensures c.if-col-eq0.true c.base_at.ensures

pub returns-then-machine-eq0 : goal.returns-then-machine-eq0
returns-then-machine-eq0 c = machine_base c.args.s.now c.args.ix.now _ _ c.col.ensures c.if-col-eq0.false c.if-machine-eq0.true c.base_at-then-machine-eq0.ensures

pub returns : goal.returns
returns c = machine_own c.args.s.now c.args.ix.now _ _ c.col.ensures c.if-col-eq0.false c.if-machine-eq0.false
