-- `text::quad` meets its contract: each return is what `quad` computes to with the digits that were found and the tests that were made.
-- Assumes nothing.
use Rattle.text.specs.Reading.{pick}
use Rattle.text.specs.Strings.{quad, code_of}
use borrow.Author.Tests.{lt-ltb, le-ltb}
use Rattle.text.proofs.quad.Goals as goal

pub returns-then-d0-ge16 : goal.returns-then-d0-ge16
unfolding quad pick code_of
returns-then-d0-ge16 c = simp (← c.hex_at-d0.ensures, le-ltb _ _ c.if-d0-ge16.true)

pub returns-then-second_end-d1 : goal.returns-then-second_end-d1
unfolding quad code_of pick
returns-then-second_end-d1 c = simp (← c.hex_at-d0.ensures, ← c.hex_at-d1.ensures, ← c.second_end.ensures.0, lt-ltb _ _ c.if-d0-ge16.false, le-ltb _ _ c.if-second_end-d1.true)

pub returns : goal.returns
unfolding quad pick
returns c = simp (← c.hex_at-d0.ensures, ← c.hex_at-d1.ensures, ← c.second_end.ensures.0, lt-ltb _ _ c.if-d0-ge16.false, lt-ltb _ _ c.if-second_end-d1.false) c.pair.ensures
