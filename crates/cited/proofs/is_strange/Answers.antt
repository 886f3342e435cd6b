-- `cited::is_strange` meets its contract: the entry is asked, if there is one.
-- Assumes nothing.
use Rattle.cited.specs.laws.Rule21.{entry_asked, entry_unknown}
use Rattle.cited.proofs.is_strange.Goals as goal

pub returns-then-e-lt32 : goal.returns-then-e-lt32
returns-then-e-lt32 c = entry_asked c.args.s.now c.args.ix.now c.args.e c.args.q c.if-e-lt32.true c.is_undeclared.ensures

pub returns : goal.returns
returns c = entry_unknown c.args.s.now c.args.ix.now c.args.e c.args.q c.if-e-lt32.false
