-- `meant::related_to` meets its contract: each part of the relation is what a callee found, at the column that the definition names. Assumes nothing.
use Rattle.meant.proofs.Steps.{related}
use Rattle.meant.proofs.related_to.Goals as goal

pub returns : goal.returns
returns c = related c.args.s.now c.args.ix.now c.args.lookups.now _ _ c.col-own_clock.ensures c.col-own_machine.ensures c.cited_at-from.ensures c.col-its_clock.ensures c.col-its_machine.ensures c.cited_at-to.ensures c.col.ensures (c.offset_at-offset.ensures c.args.ix.now c.args.lookups.now) (record { sfits = c.offset_at-offset.type_inv })
