-- `cited::is_ownless` meets its contract: of a split file the position of the machine tells.
-- Assumes nothing.
use Rattle.cited.specs.laws.Rule20.{whole_file, split_file}
use Rattle.cited.proofs.is_ownless.Goals as goal

pub returns-then-is_split : goal.returns-then-is_split
returns-then-is_split c = split_file c.args.ix.now c.args.i c.is_split.ensures c.if-is_split.true c.col.ensures

pub returns : goal.returns
returns c = whole_file c.args.ix.now c.args.i c.is_split.ensures c.if-is_split.false
