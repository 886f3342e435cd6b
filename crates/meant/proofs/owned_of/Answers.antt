-- `meant::owned_of` meets its contract: `machines` is asked for first, then `machine`; the whole file's machine is the base machine. Assumes nothing.
use Rattle.meant.proofs.Steps.{owned_split, owned_nobody, owned_whole}
use Rattle.meant.proofs.owned_of.Goals as goal

pub returns-then-col-ne0 : goal.returns-then-col-ne0
returns-then-col-ne0 c = owned_split c.args.s.now c.args.ix.now c.args.lookups.now _ c.col.ensures c.if-col-ne0.true

pub returns-then-col-eq0 : goal.returns-then-col-eq0
returns-then-col-eq0 c = owned_nobody c.args.s.now c.args.ix.now c.args.lookups.now _ c.col.ensures c.if-col-ne0.false c.col-2.ensures c.if-col-eq0.true

pub returns : goal.returns
returns c = owned_whole c.args.s.now c.args.ix.now c.args.lookups.now _ c.col.ensures c.if-col-ne0.false c.col-2.ensures c.if-col-eq0.false c.base-machine.ensures
