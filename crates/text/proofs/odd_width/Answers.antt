-- `text::odd_width` meets its contract: from 128 on `wide` tells it and at a backslash `escape_width`; any other byte that is not plain begins no character.
-- Assumes nothing.
use mathlib.Core.Path.{sym, ◌∙◌}
use Rattle.text.specs.laws.Peek.{peek_at}
use Rattle.text.proofs.SeveralBytes.{several_at_lem}
use Rattle.text.proofs.Widths.{odd_none}
use Rattle.text.proofs.odd_width.Goals as goal

pub wide-requires : goal.wide-requires
wide-requires c = several_at_lem _ _ c.requires.0 c.if-lead-gt127.true

pub returns-then-lead-gt127 : goal.returns-then-lead-gt127
returns-then-lead-gt127 c = c.wide.ensures.read

pub escape_width-requires : goal.escape_width-requires
escape_width-requires c = sym (peek_at _ _ c.requires.0) ∙ c.if-lead-eq92.true

pub returns : goal.returns
returns c = odd_none _ _ c.requires.0 c.requires.1 c.if-lead-gt127.false c.if-lead-eq92.false
