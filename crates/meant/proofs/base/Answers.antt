-- `meant::base` meets its contract: the position of the name is found, and its number in the table. Assumes nothing.
use Rattle.meant.proofs.Steps.{base_step}
use Rattle.meant.proofs.base.Goals as goal

pub returns : goal.returns
returns c = base_step c.args.s.now c.args.ix.now c.args.lookups.now _ c.base_at-at.ensures c.number_at.ensures
