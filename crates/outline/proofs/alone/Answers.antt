-- `outline::alone` meets its contract: it goes by the next member and then by the first byte of the value, which tells its kind. Assumes nothing.
use Rattle.outline.proofs.Steps.{alone_more, alone_object, alone_other}
use Rattle.outline.proofs.alone.Goals as goal

pub returns-in-Named : goal.returns-in-Named
returns-in-Named c = alone_more _ _ _ c.next_member.ensures c.in-Named.is

pub returns-then-byte-eq123 : goal.returns-then-byte-eq123
returns-then-byte-eq123 c = alone_object _ _ _ c.next_member.ensures c.in-Last.is c.byte.ensures c.if-byte-eq123.true

pub returns-else-byte-eq123 : goal.returns-else-byte-eq123
returns-else-byte-eq123 c = alone_other _ _ _ c.next_member.ensures c.in-Last.is c.byte.ensures c.if-byte-eq123.false
