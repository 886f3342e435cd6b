-- `index::col` meets its contract: the number stands in the entry's block, and past the bounds the definition gives 0.
-- Assumes nothing.
use mathlib.Core.Path.{sym, ◌∙◌}
use borrow.Author.Tests.{lt-ltb, le-ltb}
use Rattle.text.specs.laws.Readers.{pick_true, pick_false}
use Rattle.index.specs.Index.{col_of}
use Rattle.index.proofs.col.Goals as goal

pub returns-then-j-lt12 : goal.returns-then-j-lt12
unfolding col_of
returns-then-j-lt12 c = sym (pick_true _ _ (lt-ltb _ _ c.if-i-lt32.true) ∙ pick_true _ _ (lt-ltb _ _ c.if-j-lt12.true))

pub returns-else-j-lt12 : goal.returns-else-j-lt12
unfolding col_of
returns-else-j-lt12 c = sym (pick_true _ _ (lt-ltb _ _ c.if-i-lt32.true) ∙ pick_false _ _ (le-ltb _ _ c.if-j-lt12.false))

pub returns-else-i-lt32 : goal.returns-else-i-lt32
unfolding col_of
returns-else-i-lt32 c = sym (pick_false _ _ (le-ltb _ _ c.if-i-lt32.false))
