-- `text::digit` meets its contract: no digit is below 48, and from there on those up to 57 are.
-- Assumes nothing.
use Rattle.text.proofs.Quick.{below_digits, to_nine}
use Rattle.text.proofs.digit.Goals as goal

pub returns-then-b-lt48 : goal.returns-then-b-lt48
returns-then-b-lt48 c = below_digits _ c.if-b-lt48.true

pub returns : goal.returns
returns c = to_nine _ c.if-b-lt48.false
