-- `sizes::refusal_12_within` meets its contract: both members are there if neither position is 0.
-- Assumes nothing.
use Rattle.sizes.proofs.Both.{no_machine, machines_decide}
use Rattle.sizes.proofs.refusal_12_within.Goals as goal

pub returns-then-machine-eq0 : goal.returns-then-machine-eq0
returns-then-machine-eq0 c = no_machine c.args.s.now c.args.ix.now c.args.i c.col-machine.ensures c.if-machine-eq0.true

pub returns : goal.returns
returns c = machines_decide c.args.s.now c.args.ix.now c.args.i c.col-machine.ensures c.if-machine-eq0.false c.col-machines.ensures
