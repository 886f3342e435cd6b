-- `text::escape_width` meets its contract: an escape of a letter is read with 2 bytes, any other with 6 or 12, as the number of it says.
-- Assumes nothing.
use native.Mathlib.Omega.{arith}
use Rattle.text.proofs.Hexes.{begins_in}
use Rattle.text.proofs.Widths.{escape_two, escape_six, escape_zero, escape_twelve}
use Rattle.text.proofs.escape_width.Goals as goal

pub overflow_add-at : goal.overflow_add-at
overflow_add-at c = omega (arith, begins_in _ _ c.requires)

pub returns-then-escape_of_at-gt0 : goal.returns-then-escape_of_at-gt0
returns-then-escape_of_at-gt0 c = escape_two _ _ c.requires c.escape_of_at.ensures c.if-escape_of_at-gt0.true

pub returns-then-e-eq6 : goal.returns-then-e-eq6
returns-then-e-eq6 c = escape_six _ _ c.requires c.escape_of_at.ensures c.long-e.ensures c.if-e-eq6.true

pub returns-then-e-eq0 : goal.returns-then-e-eq0
returns-then-e-eq0 c = escape_zero _ _ c.requires c.escape_of_at.ensures c.long-e.ensures c.if-escape_of_at-gt0.false c.if-e-eq0.true

pub returns : goal.returns
returns c = escape_twelve _ _ c.requires c.escape_of_at.ensures c.long-e.ensures c.if-e-eq6.false c.if-e-eq0.false
