-- `once::sync_to_without_file_in` meets its contract: a member is absent where its position is 0.
-- Assumes nothing.
use Rattle.once.proofs.SyncAlone.{sync_no_clocks, sync_none, sync_alone}
use Rattle.once.proofs.sync_to_without_file_in.Goals as goal

pub returns-then-col-eq0 : goal.returns-then-col-eq0
returns-then-col-eq0 c = sync_no_clocks c.args.s.now c.args.ix.now c.args.i c.col.ensures c.if-col-eq0.true

pub returns-then-col-eq0-2 : goal.returns-then-col-eq0-2
returns-then-col-eq0-2 c = sync_none c.args.s.now c.args.ix.now c.args.i c.col.ensures c.if-col-eq0.false c.col-2.ensures c.if-col-eq0-2.true

pub returns : goal.returns
returns c = sync_alone c.args.s.now c.args.ix.now c.args.i c.col.ensures c.if-col-eq0.false c.col-2.ensures c.if-col-eq0-2.false c.col-file.ensures
