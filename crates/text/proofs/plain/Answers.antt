-- `text::plain` meets its contract: each way through it is one of those in which the quick test agrees with the class.
-- Assumes nothing.
use Rattle.text.proofs.Quick.{low_byte, high_byte, quote_byte, other_byte}
use Rattle.text.proofs.plain.Goals as goal

pub returns-then-b-lt32 : goal.returns-then-b-lt32
returns-then-b-lt32 c = low_byte _ c.if-b-lt32.true

pub returns-then-b-gt127 : goal.returns-then-b-gt127
returns-then-b-gt127 c = high_byte _ c.if-b-gt127.true

pub returns-then-b-ne34 : goal.returns-then-b-ne34
returns-then-b-ne34 c = other_byte _ c.if-b-lt32.false c.if-b-gt127.false c.if-b-ne34.true

pub returns-else-b-ne34 : goal.returns-else-b-ne34
returns-else-b-ne34 c = quote_byte _ c.if-b-ne34.false
