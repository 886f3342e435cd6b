-- `values::escape_twice` meets its contract: the same letter, or the same number of a longer escape, tells one character at both positions.
-- Assumes nothing.
use Rattle.values.proofs.Compare.{passed_none, passed_long}
use Rattle.values.proofs.escape_twice.Goals as goal

pub returns-then-n-gt0 : goal.returns-then-n-gt0
returns-then-n-gt0 c = c.short_twice-n.ensures

pub returns-then-e-eq0 : goal.returns-then-e-eq0
returns-then-e-eq0 c = passed_none _ _ _

pub returns-then-e-long : goal.returns-then-e-long
returns-then-e-long c = passed_none _ _ _

pub returns : goal.returns
returns c = passed_long _ _ _ c.requires.0 c.requires.1 c.long-e.ensures c.if-e-eq0.false c.long.ensures c.if-e-long.false
