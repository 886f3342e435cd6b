-- `values::kind_at` meets its contract: the byte at the position is what the definition peeks at, and past the end stands 256, which begins nothing.
-- Assumes nothing.
use mathlib.Core.Path.{sym, ap, ◌∙◌}
use Rattle.text.specs.laws.Peek.{peek_at, peek_end}
use Rattle.values.proofs.Ending.{kind_end}
use Rattle.values.specs.Stands.{kind_by, kind_at}
use Rattle.values.proofs.kind_at.Goals as goal

pub returns-then-at-s : goal.returns-then-at-s
unfolding kind_at
returns-then-at-s c = c.kind_by.ensures ∙ ap kind_by (peek_at _ _ c.if-at-s.true)

pub returns-else-at-s : goal.returns-else-at-s
unfolding kind_at
returns-else-at-s c = kind_end ∙ sym (ap kind_by (peek_end _ _ c.if-at-s.false))
