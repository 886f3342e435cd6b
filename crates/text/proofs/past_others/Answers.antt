-- `text::past_others` meets its contract: past the end, and where no plain byte stands, none is passed.
-- Assumes nothing.
use mathlib.Core.Path.{sym}
use Rattle.text.specs.laws.Plain.{own_stop, own_past}
use Rattle.text.proofs.past_others.Goals as goal

pub returns-then-s-at : goal.returns-then-s-at
returns-then-s-at c = sym (own_past _ _ c.if-s-at.true)

pub returns-then-not-plain : goal.returns-then-not-plain
returns-then-not-plain c = sym (own_stop _ _ c.if-s-at.false c.plain.ensures c.if-not-plain.true)
