-- `cited::refusal_19_in` meets its contract: `file` counts only where `clocks` and `sync_to` stand; the table tells the entry that it names.
-- Assumes nothing.
use Rattle.cited.specs.laws.Files.{cites_none, cites_by_table}
use Rattle.cited.proofs.laws.Rule19.{no_clocks_19, no_sync_19, sync_19}
use Rattle.cited.proofs.refusal_19_in.Goals as goal

pub returns-then-col-eq0 : goal.returns-then-col-eq0
returns-then-col-eq0 c = no_clocks_19 c.args.s.now c.args.ix.now c.args.i c.col.ensures c.if-col-eq0.true

pub returns-then-col-eq0-2 : goal.returns-then-col-eq0-2
returns-then-col-eq0-2 c = no_sync_19 c.args.s.now c.args.ix.now c.args.i c.col.ensures c.if-col-eq0.false c.col-2.ensures c.if-col-eq0-2.true

pub returns-then-col-eq0-3 : goal.returns-then-col-eq0-3
returns-then-col-eq0-3 c = sync_19 c.args.s.now c.args.ix.now c.args.i c.col.ensures c.if-col-eq0.false c.col-2.ensures c.if-col-eq0-2.false c.col-3.ensures (cites_none c.args.s.now c.args.ix.now c.col-3.result c.if-col-eq0-3.true)

pub returns : goal.returns
returns c = sync_19 c.args.s.now c.args.ix.now c.args.i c.col.ensures c.if-col-eq0.false c.col-2.ensures c.if-col-eq0-2.false c.col-3.ensures (cites_by_table c.args.s.now c.args.ix.now c.args.i c.requires.0 c.requires.1 c.col-3.ensures c.if-col-eq0-3.false)
