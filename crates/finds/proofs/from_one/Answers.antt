-- `finds::from_one` meets its contract: both cases as the definition has them. Assumes nothing.
use mathlib.Core.Path.{sym}
use borrow.Author.Tests.{lt-ltb, le-ltb}
use Rattle.text.specs.laws.Readers.{pick_true, pick_false}
use Rattle.finds.specs.Finds.{from_one}
use Rattle.finds.proofs.from_one.Goals as goal

pub returns-then-e-lt32 : goal.returns-then-e-lt32
unfolding from_one
returns-then-e-lt32 c = sym (pick_true _ _ (lt-ltb _ _ c.if-e-lt32.true))

pub returns-else-e-lt32 : goal.returns-else-e-lt32
unfolding from_one
returns-else-e-lt32 c = sym (pick_false _ _ (le-ltb _ _ c.if-e-lt32.false))
