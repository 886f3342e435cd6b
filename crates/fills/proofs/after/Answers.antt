-- `fills::after` meets its contract, which has the code's test.
-- Assumes nothing.
use Rattle.fills.proofs.Steps.{follow_close, follow_comma}
use Rattle.fills.proofs.after.Goals as goal

pub returns-then-byte-eq44 : goal.returns-then-byte-eq44
returns-then-byte-eq44 c = follow_comma _ _ c.blank-f.ensures c.byte.ensures c.if-byte-eq44.true c.blank.ensures

pub returns-else-byte-eq44 : goal.returns-else-byte-eq44
returns-else-byte-eq44 c = follow_close _ _ c.blank-f.ensures c.byte.ensures c.if-byte-eq44.false
