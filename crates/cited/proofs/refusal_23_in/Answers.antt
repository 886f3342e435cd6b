-- `cited::refusal_23_in` meets its contract: the offset counts only where `clocks` stands.
-- Assumes nothing.
use Rattle.cited.proofs.laws.Offsets.{no_clocks_23, offset_23}
use Rattle.cited.proofs.refusal_23_in.Goals as goal

pub returns-then-col-eq0 : goal.returns-then-col-eq0
returns-then-col-eq0 c = no_clocks_23 c.args.s.now c.args.ix.now c.args.i c.col.ensures c.if-col-eq0.true

pub returns : goal.returns
returns c = offset_23 c.args.s.now c.args.ix.now c.args.i c.col.ensures c.if-col-eq0.false c.col-offset.ensures c.too_far.ensures
