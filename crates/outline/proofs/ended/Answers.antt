-- `outline::ended` meets its contract: nothing is left of a string exactly where a quote stands. Assumes nothing.
use Rattle.outline.proofs.Clocks.{ended_here, ended_not}
use Rattle.outline.proofs.ended.Goals as goal

pub returns-then-byte-eq34 : goal.returns-then-byte-eq34
returns-then-byte-eq34 c = ended_here _ _ c.byte.ensures _ c.if-byte-eq34.true

pub returns-else-byte-eq34 : goal.returns-else-byte-eq34
returns-else-byte-eq34 c = ended_not _ _ c.byte.ensures _ c.if-byte-eq34.false
