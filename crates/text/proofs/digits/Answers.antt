-- `text::digits` meets its contract: digits end where they start exactly if there are none.
-- Assumes nothing.
use Rattle.text.proofs.Coded.{no_digits, some_digits}
use Rattle.text.proofs.digits.Goals as goal

pub returns-then-end-at : goal.returns-then-end-at
returns-then-end-at c = no_digits _ _ c.past_digits-end.ensures c.if-end-at.true

pub returns-else-end-at : goal.returns-else-end-at
returns-else-end-at c = some_digits _ _ c.past_digits-end.ensures c.if-end-at.false
