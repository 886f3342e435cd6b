-- `cited::same_clocks` meets its contract: by cases of which of the two clocks has a name.
-- Assumes nothing.
use Rattle.cited.specs.laws.Clocks.{both_private, private_shared, shared_private, both_shared}
use Rattle.cited.proofs.same_clocks.Goals as goal

pub returns-then-other-eq0 : goal.returns-then-other-eq0
returns-then-other-eq0 c = both_private c.args.s.now c.args.ix.now c.args.i c.args.e c.col-own.ensures c.col-other.ensures c.if-own-eq0.true c.if-other-eq0.true

pub returns-then-own-eq0 : goal.returns-then-own-eq0
returns-then-own-eq0 c = private_shared c.args.s.now c.args.ix.now c.args.i c.args.e c.col-own.ensures c.col-other.ensures c.if-own-eq0.true c.if-other-eq0.false

pub returns-then-other-eq0-2 : goal.returns-then-other-eq0-2
returns-then-other-eq0-2 c = shared_private c.args.s.now c.args.ix.now c.args.i c.args.e c.col-own.ensures c.col-other.ensures c.if-own-eq0.false c.if-other-eq0-2.true

pub same_shared-requires : goal.same_shared-requires
same_shared-requires c = c.requires

pub returns : goal.returns
returns c = both_shared c.args.s.now c.args.ix.now c.args.i c.args.e c.col-own.ensures c.col-other.ensures c.if-own-eq0.false c.if-other-eq0-2.false c.same_shared.ensures
