-- `meant::part_of` meets its contract: position 0 stands for no name; another is numbered by the table. Assumes nothing.
use Rattle.meant.proofs.Steps.{part_none, part_some}
use Rattle.meant.proofs.part_of.Goals as goal

pub returns-then-name-eq0 : goal.returns-then-name-eq0
returns-then-name-eq0 c = part_none c.args.s.now c.args.ix.now c.args.lookups.now _ _ c.name_for-name.ensures c.if-name-eq0.true

pub returns : goal.returns
returns c = part_some c.args.s.now c.args.ix.now c.args.lookups.now _ _ c.name_for-name.ensures c.if-name-eq0.false c.number_at-machine.ensures
