-- `prints::plain_at` meets its contract: past the end stands no byte. Assumes nothing.
use mathlib.Core.Path.{◌∙◌, ap, sym}
use Rattle.text.specs.laws.Plain.{own}
use Rattle.text.specs.laws.Peek.{peek_at, peek_end}
use Rattle.prints.specs.laws.Walks.{end_unplain}
use Rattle.prints.proofs.plain_at.Goals as goal

pub returns-then-at-s : goal.returns-then-at-s
returns-then-at-s c = c.plain.ensures ∙ ap own (peek_at _ _ c.if-at-s.true)

pub returns-else-at-s : goal.returns-else-at-s
returns-else-at-s c = sym (ap own (peek_end _ _ c.if-at-s.false) ∙ end_unplain)
