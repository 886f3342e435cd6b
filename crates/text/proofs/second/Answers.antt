-- `text::second` meets its contract: the two bounds are those of `second`.
-- Assumes nothing.
use Rattle.text.specs.Strings.{second}
use borrow.Author.Tests.{le-leb, lt-leb}
use Rattle.text.proofs.second.Goals as goal

pub returns-then-least-c : goal.returns-then-least-c
unfolding second
returns-then-least-c c = simp (← c.least.ensures, ← c.greatest.ensures, le-leb _ _ c.if-least-c.true)

pub returns-else-least-c : goal.returns-else-least-c
unfolding second
returns-else-least-c c = simp (← c.least.ensures, lt-leb _ _ c.if-least-c.false)
