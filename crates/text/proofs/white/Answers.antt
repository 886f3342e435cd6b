-- `text::white` meets its contract: no whitespace is above the space, and below it each of the four is asked.
-- Assumes nothing.
use mathlib.Core.Path.{◌∙◌}
use Rattle.text.proofs.Quick.{no_white, white_tab, white_line, white_last}
use borrow.Author.Tests.{eq-eqb, ne_eqb}
use Rattle.text.proofs.white.Goals as goal

pub returns-then-b-gt32 : goal.returns-then-b-gt32
returns-then-b-gt32 c = no_white _ c.if-b-gt32.true

pub returns-then-b-eq9 : goal.returns-then-b-eq9
returns-then-b-eq9 c = white_tab _ c.if-b-eq9.true

pub returns-then-b-eq10 : goal.returns-then-b-eq10
returns-then-b-eq10 c = white_line _ c.if-b-eq9.false c.if-b-eq10.true

pub returns-then-b-eq13 : goal.returns-then-b-eq13
returns-then-b-eq13 c = eq-eqb _ _ c.if-b-eq13.true ∙ (simp (eq-eqb _ _ c.if-b-eq13.true) at (white_last _ c.if-b-eq9.false c.if-b-eq10.false))

pub returns-else-b-eq13 : goal.returns-else-b-eq13
returns-else-b-eq13 c = simp (ne_eqb _ _ c.if-b-eq13.false) at (white_last _ c.if-b-eq9.false c.if-b-eq10.false)
