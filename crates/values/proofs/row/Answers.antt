-- `values::row` meets its contract: nothing is passed, or an escape, or a byte that is a character by itself, or whole characters; at both positions they are the same, so what is left is one text where what was left is.
-- Assumes nothing.
use mathlib.Core.Path.{sym, ◌∙◌}
use Rattle.values.proofs.Compare.{passed_none, passed_byte, passed_raws}
use Rattle.values.proofs.row.Goals as goal

pub returns-then-b-d : goal.returns-then-b-d
returns-then-b-d c = passed_none _ _ _

pub escape_twice-requires : goal.escape_twice-requires
escape_twice-requires c = (sym c.requires.0 ∙ c.if-b-eq92.true, sym c.requires.1 ∙ sym c.if-b-d.false ∙ c.if-b-eq92.true)

pub returns-then-b-eq92 : goal.returns-then-b-eq92
returns-then-b-eq92 c = c.escape_twice.ensures

pub returns-then-ordinary : goal.returns-then-ordinary
returns-then-ordinary c = passed_byte _ _ _ c.requires.0 (c.if-b-d.false ∙ c.requires.1) c.requires.2 (c.ordinary.ensures.0 c.if-ordinary.true)

pub returns : goal.returns
returns c = passed_raws _ _ _ c.raw_alike.ensures
