-- `index::item` meets its contract: the number stands in the entry's block after its row, and past the bounds the definition gives 0.
-- Assumes nothing.
use mathlib.Core.Path.{sym, ◌∙◌}
use borrow.Author.Tests.{lt-ltb, le-ltb}
use Rattle.text.specs.laws.Readers.{pick_true, pick_false}
use Rattle.index.specs.Index.{item_of}
use Rattle.index.proofs.item.Goals as goal

pub returns-then-j-lt2 : goal.returns-then-j-lt2
unfolding item_of
returns-then-j-lt2 c = sym (pick_true _ _ (lt-ltb _ _ c.if-i-lt32.true) ∙ pick_true _ _ (lt-ltb _ _ c.if-k-lt32.true) ∙ pick_true _ _ (lt-ltb _ _ c.if-j-lt2.true))

pub returns-else-j-lt2 : goal.returns-else-j-lt2
unfolding item_of
returns-else-j-lt2 c = sym (pick_true _ _ (lt-ltb _ _ c.if-i-lt32.true) ∙ pick_true _ _ (lt-ltb _ _ c.if-k-lt32.true) ∙ pick_false _ _ (le-ltb _ _ c.if-j-lt2.false))

pub returns-else-k-lt32 : goal.returns-else-k-lt32
unfolding item_of
returns-else-k-lt32 c = sym (pick_true _ _ (lt-ltb _ _ c.if-i-lt32.true) ∙ pick_false _ _ (le-ltb _ _ c.if-k-lt32.false))

pub returns-else-i-lt32 : goal.returns-else-i-lt32
unfolding item_of
returns-else-i-lt32 c = sym (pick_false _ _ (le-ltb _ _ c.if-i-lt32.false))
