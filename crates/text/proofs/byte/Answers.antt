-- `text::byte` meets its contract: within the text its byte, past the end 256, as `peek` says.
-- Assumes nothing.
use Rattle.text.specs.laws.Peek.{peek_at, peek_end}
use mathlib.Core.Path.{◌∙◌, sym}
use Rattle.text.proofs.byte.Goals as goal

pub returns-then-at-s : goal.returns-then-at-s
returns-then-at-s c = c.widen.ensures ∙ peek_at _ _ c.if-at-s.true

pub returns-else-at-s : goal.returns-else-at-s
returns-else-at-s c = sym (peek_end _ _ c.if-at-s.false)
