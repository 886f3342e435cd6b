-- `once::clocks_without_sync_to_in` meets its contract: a member is absent where its position is 0.
-- Assumes nothing.
use Rattle.once.proofs.ClocksAlone.{clocks_none, clocks_some}
use Rattle.once.proofs.clocks_without_sync_to_in.Goals as goal

pub returns-then-col-eq0 : goal.returns-then-col-eq0
returns-then-col-eq0 c = clocks_none c.args.s.now c.args.ix.now c.args.i c.col.ensures c.if-col-eq0.true

pub returns : goal.returns
returns c = clocks_some c.args.s.now c.args.ix.now c.args.i c.col.ensures c.if-col-eq0.false c.col-sync_to.ensures
