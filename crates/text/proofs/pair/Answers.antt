-- `text::pair` meets its contract: each return is what `pair_of` computes to with the digits that were found and the tests that were made.
-- Assumes nothing.
use Rattle.text.specs.Reading.{pick}
use Rattle.text.specs.Strings.{pair_of, code_of}
use borrow.Author.Tests.{lt-ltb, le-ltb}
use Rattle.text.proofs.pair.Goals as goal

pub returns-then-d0-ge16 : goal.returns-then-d0-ge16
unfolding pair_of pick code_of
returns-then-d0-ge16 c = simp (← c.hex_at-d0.ensures, le-ltb _ _ c.if-d0-ge16.true)

pub returns-then-d1-ge16 : goal.returns-then-d1-ge16
unfolding pair_of pick code_of
returns-then-d1-ge16 c = simp (← c.hex_at-d0.ensures, ← c.hex_at-d1.ensures, lt-ltb _ _ c.if-d0-ge16.false, le-ltb _ _ c.if-d1-ge16.true)

pub returns : goal.returns
unfolding pair_of pick code_of
returns c = simp (← c.hex_at-d0.ensures, ← c.hex_at-d1.ensures, lt-ltb _ _ c.if-d0-ge16.false, lt-ltb _ _ c.if-d1-ge16.false)
