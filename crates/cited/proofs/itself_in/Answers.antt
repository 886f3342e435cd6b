-- `cited::itself_in` meets its contract: the columns are tested from the outside in, as the rule looks at them, then the entry that the table tells.
-- Assumes nothing.
use Rattle.cited.proofs.laws.Rule24.{no_clocks_24, no_sync_24, no_entry_24, some_entry_24}
use Rattle.cited.proofs.itself_in.Goals as goal

pub returns-then-col-eq0 : goal.returns-then-col-eq0
returns-then-col-eq0 c = no_clocks_24 c.args.s.now c.args.ix.now c.args.i c.col.ensures c.if-col-eq0.true

pub returns-then-col-eq0-2 : goal.returns-then-col-eq0-2
returns-then-col-eq0-2 c = no_sync_24 c.args.s.now c.args.ix.now c.args.i c.col.ensures c.if-col-eq0.false c.col-2.ensures c.if-col-eq0-2.true

pub same_clocks-requires : goal.same_clocks-requires
same_clocks-requires c = c.requires.2

pub returns-then-reference-lt32 : goal.returns-then-reference-lt32
returns-then-reference-lt32 c = some_entry_24 c.args.s.now c.args.ix.now c.args.i c.col.ensures c.if-col-eq0.false c.col-2.ensures c.if-col-eq0-2.false c.requires.0 c.requires.1 c.if-reference-lt32.true c.same_clocks.ensures

pub returns : goal.returns
returns c = no_entry_24 c.args.s.now c.args.ix.now c.args.i c.col.ensures c.if-col-eq0.false c.col-2.ensures c.if-col-eq0-2.false c.requires.0 c.requires.1 c.if-reference-lt32.false
