-- `text::two` meets its contract: each return is what `two` computes to with the bytes that were found.
-- Assumes nothing.
use Rattle.text.specs.Reading.{pick}
use Rattle.text.specs.Strings.{two, code_of}
use Rattle.text.proofs.two.Goals as goal

pub returns-then-not-second : goal.returns-then-not-second
unfolding two pick code_of
returns-then-not-second c = simp (← c.byte-b.ensures, ← c.byte-c.ensures, ← c.second.ensures, c.if-not-second.true)

pub returns : goal.returns
unfolding two pick code_of
returns c = simp (← c.byte-b.ensures, ← c.byte-c.ensures, ← c.second.ensures, c.if-not-second.false)
