-- `cited::refusal_20_in` meets its contract: first the own `clocks`, then its `sync_to`.
-- Assumes nothing.
use Rattle.cited.specs.laws.Rule20.{no_clocks_20, clocks_20, no_sync_20, sync_20_said}
use Rattle.cited.proofs.refusal_20_in.Goals as goal

pub returns-then-clocks-eq0 : goal.returns-then-clocks-eq0
returns-then-clocks-eq0 c = no_clocks_20 c.args.s.now c.args.ix.now c.args.i c.col-clocks.ensures c.if-clocks-eq0.true

pub returns-then-is_ownless : goal.returns-then-is_ownless
returns-then-is_ownless c = clocks_20 c.args.s.now c.args.ix.now c.args.i c.col-clocks.ensures c.if-clocks-eq0.false c.is_ownless.ensures c.if-is_ownless.true

pub returns-then-col-eq0 : goal.returns-then-col-eq0
returns-then-col-eq0 c = no_sync_20 c.args.s.now c.args.ix.now c.args.i c.col-clocks.ensures c.if-clocks-eq0.false c.is_ownless.ensures c.if-is_ownless.false c.col.ensures c.if-col-eq0.true

pub is_unnamed-requires : goal.is_unnamed-requires
is_unnamed-requires c = c.requires

pub returns : goal.returns
returns c = sync_20_said c.args.s.now c.args.ix.now c.args.i c.col-clocks.ensures c.if-clocks-eq0.false c.is_ownless.ensures c.if-is_ownless.false c.col.ensures c.if-col-eq0.false c.is_unnamed.ensures
